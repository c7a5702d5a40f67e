-- The picks of a picker, one after the other, are those of its seed.
use Rattle.std.proofs.Common.{◌≡◌, ℕ, zero, suc, ◌+◌, ◌%◌, Bool, true, false, Option, Some, None, refl, ap, ◌∙◌, add-one}
use Rattle.std.specs.Prelude.{◌==◌, cond, if◌then◌else◌}
use Rattle.rand_pcg.specs.Lcg.{Lcg, next_state, state_after}
use Rattle.rand_pcg.specs.Pcg.{multiplier_64}
use Rattle.sched_seed.specs.Words.{after_word, generator, generator_at, word}
use Rattle.sched_seed.specs.Picks.{after_pick, next_pick, pick, picker_at}

-- a step after n steps is step n + 1
pub state_after_more : (w m increment n s : ℕ) → next_state w m increment (state_after w m increment n s)
    ≡ state_after w m increment (suc n) s
unfolding state_after
state_after_more w m increment zero s = refl
state_after_more w m increment (suc n) s = state_after_more w m increment n (next_state w m increment s)

-- before its first word a generator is as it was made
pub generator_at_zero : (seed stream : ℕ) → generator_at seed stream 0 ≡ generator seed stream
unfolding state_after
generator_at_zero seed stream = refl

-- the generator of the word after word k
pub after_word_at : (seed stream k : ℕ) → after_word (generator_at seed stream k) ≡ generator_at seed stream (k + 1)
after_word_at seed stream k =
    let first : Lcg = generator seed stream in
    rw add-one (ap (λ (s : ℕ). record first { state = s }) (state_after_more 64 multiplier_64 first.increment k first.state))

-- a picker before its first pick
abbrev pub picker_of : ℕ → Option Lcg
picker_of seed = if seed == 0 then None else Some (generator seed 1)

pub picker_at_zero : (seed : ℕ) → picker_of seed ≡ picker_at seed 0
unfolding state_after
picker_at_zero seed = refl

picks_by : (still : Bool) (seed k n : ℕ) →
    (next_pick (cond still None (Some (generator_at seed 1 k))) n ≡ cond still 0 (word seed 1 k % n))
    × (after_pick (cond still None (Some (generator_at seed 1 k))) ≡ cond still None (Some (generator_at seed 1 (k + 1))))
picks_by true seed k n = (refl, refl)
picks_by false seed k n = (refl, ap (λ (g : Lcg). Some g) (after_word_at seed 1 k))

-- what a picker before pick k picks, and what it is then
pub picks_at : (seed k n : ℕ) → (next_pick (picker_at seed k) n ≡ pick seed k n)
    × (after_pick (picker_at seed k) ≡ picker_at seed (k + 1))
picks_at seed k n = picks_by (seed == 0) seed k n

pub picked_at : (picker after : Option Lcg) (picked seed k n : ℕ) → picked ≡ next_pick picker n → after ≡ after_pick picker →
    picker ≡ picker_at seed k → (picked ≡ pick seed k n) × (after ≡ picker_at seed (k + 1))
picked_at picker after picked seed k n first rest at = (
  first ∙ ap (λ (p : Option Lcg). next_pick p n) at ∙ (picks_at seed k n).0,
  rest ∙ ap (λ (p : Option Lcg). after_pick p) at ∙ (picks_at seed k n).1,
)
