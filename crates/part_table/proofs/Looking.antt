-- The steps that look at the journal's length keep the rule.
use Rattle.std.proofs.Common.{◌≡◌, ℕ, zero, suc, ◌+◌, ◌-◌, ◌<◌, ◌≤◌, ◌≢◌, ◌⊎◌, ◌==◌, ltb, min, false, List, [], length, set, sym, refl, ap, ◌∙◌, subst, inl, inr, ⊎_elim, arith, length-set, get_or-set_other, get_or-set_same, Some, None, slice_index, MatchBool, Vec, Global}
use Rattle.std.proofs.lemmas.Bool.{lt-ltb}
use Rattle.std.proofs.lemmas.Bool.Decides.{nat_tests}
use mathlib.Core.Option.{some, none, some-injective, some-ne-none}
use mathlib.Core.Option as maybe
use lib.ListN.{get_elem?}
use prog.Atomic.{either}
use Rattle.atomic_table.specs.Table.{State, Me, Act, step, keeps, stepped, Valid, carried_after, Allows}
use Rattle.atomic_table.proofs.Lists.{at_set, exchanged}
use Rattle.part_table.specs.declared.rule.Entry.{Entry}
use Rattle.part_table.specs.declared.rule.Slot.{Slot}
use Rattle.part_table.specs.declared.rule.Slot.TheVariants.{Ask}
use Rattle.part_table.specs.declared.rule.View.{View}
use Rattle.part_table.specs.History.{Rules, held_at}
use Rattle.part_table.specs.Rule.{Kept, Knows, Looks, Sees, looked, saw, sum_of_views}
use Rattle.part_table.proofs.Histories.{prefix_self}
use Rattle.part_table.proofs.Taking.{same_word, total_set, holds_set, is_at_set}

pub lt_or : (a b : ℕ) → (a < b) ⊎ (b ≤ a)
lt_or a zero = inr (omega arith)
lt_or zero (suc b) = inl (omega arith)
lt_or (suc a) (suc b) = ⊎_elim (λ (h : a < b). inl (omega (arith, h))) (λ (h : b ≤ a). inr (omega (arith, h))) (lt_or a b)

pub pos_if : (n : ℕ) → (n ≡ 0 → ⊥) → 0 < n
pos_if zero f = absurd (f refl)
pos_if (suc n) f = omega arith

pub le-ltb : (a b : ℕ) → b ≤ a → ltb a b ≡ false
le-ltb a b h = grind (arith, nat_tests)

pub event_is : {S E : Type 0} (e f : E) (xs ys : Vec S Global) → ◌≡◌ {A = maybe.Option (Slot S E)} (some (Ask e xs))
    (some (Ask f ys)) → ◌≡◌ {A = E × List S} (e, xs.items) (f, ys.items)
event_is e f xs ys h = let a : e ≡ f = cc h in let b : xs ≡ ys = cc h in λ i. (a i, (b i).items)

module _ {M S E : Type 0} (r : Rules S E) (limit passes : ℕ) (m : M) where
  -- a step that changes no part and no place, but what one seat knows, and maybe the count past the limit
  pub reviewed : (s : State (Slot S E) (View M S E)) (k : Kept r limit passes m s) (id n : ℕ) (v w : View M S E) →
      get_elem? s.views id ≡ some v
      → w.numbers ≡ v.numbers → w.held ≡ v.held → w.place ≡ v.place
      → slice_index s.words 0 ≤ n → min n limit ≡ min (slice_index s.words 0) limit →
      (n - limit) + w.room ≡ (slice_index s.words 0 - limit) + v.room
      → Knows r limit passes m k.log (set s.words 0 n) k.owner k.writer k.session_state id w
      → Kept r limit passes m record { words = set s.words 0 n; homes = s.homes; views = set s.views id w }
  reviewed s k id n v w at numbers held place up same_length same_room kw =
      let word : (p : ℕ) → slice_index (set s.words 0 n) (p + 1) ≡ slice_index s.words (p + 1) =
      (λ p. get_or-set_other s.words 0 (p + 1) n 0 (λ e. omega arith)) in
      let word0 : slice_index (set s.words 0 n) 0 ≡ n = get_or-set_same s.words 0 n 0 (let h = k.wide in omega (arith, h)) in
      record {
        log = k.log;
        owner = k.owner;
        writer = k.writer;
        session_state = k.session_state;
        legal = k.legal;
        strangers = k.strangers;
        wide = length-set s.words 0 n ∙ k.wide;
        deep = k.deep;
        reserved = k.reserved;
        counted = k.counted ∙ (sym same_length ∙ ap (λ z. min z limit) (sym word0));
        numbers = (let t = total_set (λ (u : View M S E). length u.numbers) s.views id v w at in let o = k.numbers in let l =
            ap (λ (l : List ℕ). length l) numbers in omega (arith, t, o, l));
        room = (let t = total_set (λ (u : View M S E). u.room) s.views id v w at in let o = k.room in let a : ℕ = n - limit in
            let b : ℕ = slice_index s.words 0 - limit in
            let e : a + w.room ≡ b + v.room = same_room in let g : a + sum_of_views (λ (u : View M S E). u.room)
            (set s.views id w) ≡ passes = omega (arith, t, o, e) in
            ap (λ z. (z - limit) + sum_of_views (λ (u : View M S E). u.room) (set s.views id w)) word0 ∙ g);
        parts = (λ p lt. ⊎_elim (λ home. inl (word p ∙ home.0, home.1))
            (λ out. inr (
              word p ∙ out.0,
              holds_set r limit passes m s.views id (k.owner p) p v w at
                  (λ y h. (y, ap (held_at p) held ∙ h)) out.1,
            )) (k.parts p lt));
        places = (λ j lt. ⊎_elim (λ b. inl b)
            (λ f. inr (⊎_elim (λ g. inl g) (λ a. inr (is_at_set r limit passes m s.views id (k.writer j) j v w at place a))
            f)) (k.places j lt));
        views = (λ j u g. ⊎_elim
            (λ t. subst (λ (z : ℕ × View M S E). Knows r limit passes m k.log (set s.words 0 n) k.owner k.writer
            k.session_state z.0 z.1) (λ a. (sym t.0 a, t.1 a)) kw)
            (λ t. let ku = k.views j u t.1 in record {
              machine = ku.machine;
              seen = ku.seen;
              mine = ku.mine;
              told = ku.told;
              held = (λ p x h. let o = ku.held p x h in (o.0, o.1, word p ∙ o.2, o.3));
              place = ku.place;
              ready = ku.ready;
              over = (λ a b. let o = ku.over a b in omega (arith, o, word0, up));
              idle = ku.idle;
            })
            (at_set s.views id j w u g));
      }

  -- what the seat id knows, once it has seen the whole history
  pub seeing : (log : List (Entry S E)) (words : List ℕ) (owner writer session_state : ℕ → ℕ) (id : ℕ) (v : View M S E) →
      Knows r limit passes m log words owner writer session_state id v →
      Knows r limit passes m log (set words 0 (slice_index words 0)) owner writer session_state id (saw v log)
  seeing log words owner writer session_state id v k = let same = same_word words 0 in record {
    machine = k.machine;
    seen = prefix_self log;
    mine = (λ j h. let o = k.mine j h in (o.0, o.1, refl));
    told = k.told;
    held = (λ p x h. let o = k.held p x h in (o.0, o.1, ap (λ l. slice_index l (p + 1)) same ∙ o.2, o.3));
    place = k.place;
    ready = k.ready;
    over = (λ a b. subst (λ (l : List ℕ). limit ≤ slice_index l 0) (sym same) (k.over a b));
    idle = k.idle;
  }

  pub sees : (slots id : ℕ) (me : Me (Slot S E) (View M S E)) → Allows (Kept r limit passes m) slots id me 0 (λ n. n)
      (Sees r (step slots 0 0 0 none) me)
  sees slots id me s k deep at fits = let kv = k.views id me.0 at in (
    saw me.0 k.log,
    keeps,
    tt,
    reviewed s k id (slice_index s.words 0) me.0 (saw me.0 k.log) at refl refl refl (omega arith) refl refl
        (seeing k.log s.words k.owner k.writer k.session_state id me.0 kv),
    (k.log, refl, kv.seen, (λ j h. (kv.mine j h).2), k.legal, λ p x h. (kv.held p x h).3),
  )

  -- the seat may commit e
  looking : (log : List (Entry S E)) (words : List ℕ) (owner writer session_state : ℕ → ℕ) (id : ℕ) (v : View M S E)
      (e : E × List S) → v.place ≡ None → 0 < v.room → Knows r limit passes m log words owner writer session_state id v
      → Knows r limit passes m log (set words 0 (slice_index words 0)) owner writer session_state id (looked v log e)
  looking log words owner writer session_state id v e apart room k = let o =
      seeing log words owner writer session_state id v k in record {
        machine = o.machine;
        seen = o.seen;
        mine = o.mine;
        told = o.told;
        held = o.held;
        place = (λ j h. absurd (cc (sym apart ∙ h)));
        ready = (λ _. room);
        over = o.over;
        idle = o.idle;
      }

  unmoved : (n : ℕ) → either (n == 0) 0 n ≡ n
  unmoved n = exchanged n 0 0 (λ z. z ≡ n) (λ h. sym h) (λ _. refl)

  pub looks : (slots id : ℕ) (me : Me (Slot S E) (View M S E)) (e : E) (xs : Vec S Global) → me.0.machine ≡ Some m →
      me.0.numbers ≢ [] → me.0.place ≡ None → Allows (Kept r limit passes m) slots id me 0 (λ n. either (n == 0) 0 n)
      (Looks (step slots 0 0 0 (some (Ask e xs))) me)
  looks slots id me e xs known active apart s k deep at fits =
      let kv = k.views id me.0 at in let n : ℕ = slice_index s.words 0 in let told =
      Looks (step slots 0 0 0 (some (Ask e xs))) me in
      let Goes : ℕ → Type 0 = λ new. (w : View M S E) × (a : Act (Slot S E)) × Valid s.homes me.1 a
      × Kept r limit passes m (stepped s 0 new id me.1 w a) × told n (w, carried_after me.1 a) in
      let same_limit : me.0.limit ≡ limit = (kv.machine m known).2 in
      subst Goes (sym (unmoved n)) (⊎_elim
      (λ (below : n < limit). let room : 0 < me.0.room = pos_if me.0.room (λ z. let o = kv.over active z in
      omega (arith, o, below)) in
      let now : Me (Slot S E) (View M S E) = (looked me.0 k.log (e, xs.items), me.1) in (
        looked me.0 k.log (e, xs.items),
        keeps,
        tt,
        reviewed s k id n me.0 (looked me.0 k.log (e, xs.items)) at refl refl refl (omega arith) refl refl
            (looking k.log s.words k.owner k.writer k.session_state id me.0 (e, xs.items) apart room kv),
        λ f ys said. (
          k.log,
          kv.seen,
          (λ j h. (kv.mine j h).2),
          subst (λ b. MatchBool b (now ≡ (looked me.0 k.log (f, ys.items), me.1)) ((now ≡ (saw me.0 k.log, me.1))
              × (length k.log ≡ me.0.limit))) (sym (lt-ltb n me.0.limit (omega (arith, same_limit, below))))
              (λ i. (looked me.0 k.log (event_is e f xs ys said i), me.1)),
        ),
      ))
      (λ (past : limit ≤ n). let now : Me (Slot S E) (View M S E) = (saw me.0 k.log, me.1) in (
        saw me.0 k.log,
        keeps,
        tt,
        reviewed s k id n me.0 (saw me.0 k.log) at refl refl refl (omega arith) refl refl
            (seeing k.log s.words k.owner k.writer k.session_state id me.0 kv),
        λ f ys said. (
          k.log,
          kv.seen,
          (λ j h. (kv.mine j h).2),
          subst (λ b. MatchBool b (now ≡ (looked me.0 k.log (f, ys.items), me.1)) ((now ≡ (saw me.0 k.log, me.1))
              × (length k.log ≡ me.0.limit))) (sym (le-ltb n me.0.limit (omega (arith, same_limit, past))))
              (refl, let c = k.counted in omega (arith, c, past, same_limit)),
        ),
      ))
      (lt_or n limit))

module _ {M S E : Type 0} (mk : M → ℕ → Rules S E) (parts limit passes : ℕ) (m : M) where
  -- it sees the history, by its own words for the machine
  pub sees_own : (slots id : ℕ) (me : Me (Slot S E) (View M S E)) → (mk m parts).parts ≡ parts
      → Allows (Kept (mk m parts) limit passes m) slots id me 0 (λ n. n) (λ n after. (mc : M) → me.0.machine ≡ Some mc →
      Sees (mk mc me.0.parts) (step slots 0 0 0 none) me n after)
  sees_own slots id me count s k deep at fits =
      let kv = k.views id me.0 at in
      let n : ℕ = slice_index s.words 0 in
      let t = sees (mk m parts) limit passes m slots id me s k deep at fits in (
        t.0,
        t.1,
        t.2,
        t.3,
        λ mc e. let h = kv.machine mc e in
            subst (λ (z : M × ℕ). Sees (mk z.0 z.1) (step slots 0 0 0 none) me n (t.0, carried_after me.1 t.1))
            (λ i. (sym h.0 i, sym (h.1 ∙ count) i)) t.4,
      )
