-- What a run in work keeps: each event that the schedule picked adds a step of the machine.
use Rattle.std.proofs.Common.{◌≡◌, ℕ, zero, suc, Bool, true, false, List, [], ◌∷◌, ◌++◌, Option, Some, None, IfNone, IsTrue, slice_get, length, ◌+◌, ◌<◌, ◌≤◌, ◌&&◌, length-append, refl, sym, ◌∙◌, ap, arith, subst, inl}
use Rattle.std.specs.List.{list_all}
use Rattle.std.proofs.lemmas.Option.{slice_get-get_or}
use Rattle.ignite_types.specs.declared.journal.Event.{Event}
use Rattle.ignite_types.specs.declared.journal.Group.{Group}
use Rattle.ignite_types.specs.declared.scenario.Scenario.{Scenario}
use Rattle.rand_pcg.specs.Lcg.{Lcg}
use Rattle.sched_seed.specs.Picks.{after_pick, next_pick, pick, picker_at}
use Rattle.sched_seed.proofs.PickLemmas.{picks_at}
use Rattle.tx_model.specs.Opening.{opening}
use Rattle.tx_model.specs.Runs.{ArePicked, AreSteps, IsPicked, IsStep, world_after}
use Rattle.tx_model.specs.World.{World, outcome, possible}
use Rattle.world_core.specs.Run.{KeepsPast, Run, run_after, run_begun}
use Rattle.sim_top.specs.Drive.{PastFollows, Follows, Advances, AllPicked, Moves, counted, picks}
use Rattle.sim_top.proofs.WorldLaws.{all_possible, enabled_of, may_be, no_memory_of, whole_after}

and_left : (a b : Bool) → (a && b) ≡ true → a ≡ true
and_left true b h = refl
and_left false b h = h

and_right : (a b : Bool) → (a && b) ≡ true → b ≡ true
and_right true b h = h
and_right false b h = absurd (cc h)

picked_passes : {X : Type 0} (p : X → Bool) (xs : List X) (i : ℕ) (x : X) → list_all p xs ≡ true → slice_get xs i ≡ Some x →
    p x ≡ true
picked_passes p [] i x all at = absurd (cc at)
picked_passes p (y ∷ ys) zero x all at =
    let same : y ≡ x = cc at in
    subst (λ v. p v ≡ true) same (and_left (p y) (list_all p ys) all)
picked_passes p (y ∷ ys) (suc i) x all at = picked_passes p ys i x (and_right (p y) (list_all p ys) all) at

pub after_append : (w : World) (gs : List Group) (g : Group) →
    world_after w (gs ++ g ∷ []) ≡ (outcome (world_after w gs) g.event).world
after_append w [] g = refl
after_append w (h ∷ hs) g = after_append (outcome w h.event).world hs g

pub steps_append : (w : World) (gs : List Group) (g : Group) → AreSteps w gs → IsStep (world_after w gs) g →
    AreSteps w (gs ++ g ∷ [])
steps_append w [] g steps step = (step, tt)
steps_append w (h ∷ hs) g steps step = (steps.0, steps_append (outcome w h.event).world hs g steps.1 step)

-- one more picked event behind the others, whose number counts these
picked_append : (seed k n : ℕ) (w : World) (gs : List Group) (g : Group) → n ≡ k + length gs → AllPicked seed k w gs →
    IsPicked (picks seed n (length (possible (world_after w gs)))) (world_after w gs) g.event →
    AllPicked seed k w (gs ++ g ∷ [])
picked_append seed k n w [] g is all last = let e : n ≡ k = omega (arith, is) in
    (subst (λ (m : ℕ). IsPicked (picks seed m (length (possible w))) w g.event) e last, tt)
picked_append seed k n w (h ∷ hs) g is all last =
    (all.0, picked_append seed (k + 1) n (outcome w h.event).world hs g (omega (arith, is)) all.1 last)

-- picked events follow a schedule
pub are_picked : (seed k : ℕ) (w : World) (gs : List Group) → AllPicked seed k w gs → ArePicked (picks seed) k w gs
are_picked seed k w [] all = tt
are_picked seed k w (g ∷ gs) all = (inl all.0, are_picked seed (k + 1) (outcome w g.event).world gs all.1)

pub follows_begun : (seed : ℕ) (s : Scenario) → Follows seed (run_begun s)
follows_begun seed s = record { past = record { steps = tt; picked = tt }; now = refl; whole = refl }

pub follows_stepped : (seed k : ℕ) (r : Run) (e : Event) → length r.past ≡ k → Follows seed r →
    slice_get (possible r.now) (picks seed k (length (possible r.now))) ≡ Some e → Follows seed (run_after r e)
follows_stepped seed k r e many h at =
    let g : Group = record { event = e; recs = (outcome r.now e).recs } in
    let may : may_be r.now e ≡ true = picked_passes (may_be r.now) (possible r.now) _ e (all_possible r.now) at in
    let step : IsStep r.now g = record { possible_event = enabled_of r.now e h.whole may; same_records = refl } in
    let last : IsPicked (picks seed k (length (possible r.now))) r.now e = at in
    let behind : k ≡ 0 + length r.past = omega (arith, many) in
    record {
      past = record {
        steps = steps_append (opening r.scenario) r.past g h.past.steps (subst (λ (w : World). IsStep w g) h.now step);
        picked = picked_append seed 0 k (opening r.scenario) r.past g behind h.past.picked
            (subst (λ (w : World). IsPicked (picks seed k (length (possible w))) w e) h.now last);
      };
      now = ap (λ (w : World). (outcome w e).world) h.now ∙ sym (after_append (opening r.scenario) r.past g);
      whole = whole_after r.now e (no_memory_of r.now e may) ∙ h.whole;
    }

-- by the picker that stands before this pick
pub follows_next : (seed k : ℕ) (picker : Option Lcg) (r r' : Run) → picker ≡ picker_at seed k → length r.past ≡ k →
    Follows seed r → Advances picker r r' → Follows seed r'
follows_next seed k picker r r' at many h a =
    let n : ℕ = counted (length (possible r.now)) in
    let place : next_pick picker n ≡ pick seed k n = ap (λ (p : Option Lcg). next_pick p n) at ∙ (picks_at seed k n).0 in
    let is : slice_get (possible r.now) (pick seed k n) ≡ Some a.event =
    subst (λ (i : ℕ). slice_get (possible r.now) i ≡ Some a.event) place a.picked in
    subst (λ (x : Run). Follows seed x) (sym a.is) (follows_stepped seed k r a.event many h is)

pub next_picker : (seed k : ℕ) (picker next : Option Lcg) → picker ≡ picker_at seed k → next ≡ after_pick picker →
    next ≡ picker_at seed (k + 1)
next_picker seed k picker next at is = is ∙ ap after_pick at ∙ (picks_at seed k 0).1

pub past_kept : (seed : ℕ) (r r' : Run) → Follows seed r → KeepsPast r r' → PastFollows seed r'
past_kept seed r r' h k = record {
  steps = rw (k.scenario, k.past) h.past.steps;
  picked = rw (k.scenario, k.past) h.past.picked;
}

pub one_longer : (picker : Option Lcg) (r r' : Run) (n : ℕ) → length r.past ≡ n → Advances picker r r' → length r'.past ≡ n + 1
one_longer picker r r' n h a = rw a.is (simp length-append (omega (arith, h)))

pub same_scenario : (picker : Option Lcg) (r r' : Run) → Advances picker r r' → r'.scenario ≡ r.scenario
same_scenario picker r r' a = ap (λ (x : Run). x.scenario) a.is

pub moved : (picker next : Option Lcg) (b : Bool) (r r' : Run) → b ≡ true → Moves picker next b r r' → Advances picker r r'
    × (next ≡ after_pick picker)
moved picker next true r r' h m = m
moved picker next false r r' h m = absurd (cc h)

-- a picker picks one of several events
pub pick_inside : (picker : Option Lcg) (n : ℕ) → 1 ≤ n → next_pick picker n < n
pick_inside None n some = omega (arith, some)
pick_inside (Some g) n some = omega (arith, some)

pub counted_inside : (n : ℕ) → 1 ≤ n → (1 ≤ counted n) × (counted n ≤ n)
counted_inside n some = (omega (arith, some), omega (arith, some))

-- at a place inside a list there is something
inside_some : {X : Type 0} (xs : List X) (i : ℕ) → i < length xs → IfNone (slice_get xs i) (xs ≡ [])
inside_some [] i inside = absurd (omega (arith, inside))
inside_some (x ∷ xs) i inside = rw (slice_get-get_or (x ∷ xs) i x inside) tt

-- of some events one is picked
pub picks_some : {X : Type 0} (picker : Option Lcg) (xs : List X) → 1 ≤ length xs →
    IfNone (slice_get xs (next_pick picker (counted (length xs)))) (xs ≡ [])
picks_some picker xs some =
    let bound : (1 ≤ counted (length xs)) × (counted (length xs) ≤ length xs) = counted_inside (length xs) some in
    let inside : next_pick picker (counted (length xs)) < counted (length xs) =
    pick_inside picker (counted (length xs)) bound.0 in
    inside_some xs (next_pick picker (counted (length xs))) (omega (arith, bound, inside))

pub some_of : {X : Type 0} (xs : List X) → (xs ≡ [] → IsTrue false) → 1 ≤ length xs
some_of [] some = absurd (cc (some refl))
some_of (x ∷ xs) some = omega arith
