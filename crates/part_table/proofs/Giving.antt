-- The steps that bring a slot home keep the rule.
use Rattle.std.proofs.Common.{◌≡◌, ℕ, ◌+◌, ◌<◌, ◌≢◌, if◌then◌else◌, List, ◌∷◌, length, set, sym, refl, ap, ◌∙◌, subst, inl, inr, ⊎_elim, arith, length-set, get_or-set_other, get_or-set_same, eq-eqb, ne_eqb, Some, None, slice_index}
use Rattle.std.proofs.lemmas.Bool.{cases_eq}
use mathlib.Core.Option.{some, none, some-injective, some-ne-none}
use mathlib.Core.Option as maybe
use lib.ListN.{get_elem?}
use Rattle.atomic_table.specs.Table.{State, Me, step, gives, put_back, rest, Allows}
use Rattle.atomic_table.proofs.Lists.{at_set, set_here, set_else}
use Rattle.part_table.specs.declared.rule.Entry.{Entry}
use Rattle.part_table.specs.declared.rule.Slot.{Slot}
use Rattle.part_table.specs.declared.rule.Slot.TheVariants.{Part, Place}
use Rattle.part_table.specs.declared.rule.View.{View}
use Rattle.part_table.specs.History.{Rules, held_at, replay}
use Rattle.part_table.specs.Rule.{Gives, InPlace, Kept, Knows, Places, placed, rest_of, without_first_held}
use Rattle.part_table.proofs.Taking.{total_set, same_word, place_of, holds_set, is_at_set, reserved_else}

module _ {M S E : Type 0} (r : Rules S E) (limit passes : ℕ) (m : M) where
  module _ (s : State (Slot S E) (View M S E)) (k : Kept r limit passes m s) (id p : ℕ) (v : View M S E) (x : S)
      (hs : List (ℕ × S)) (at : get_elem? s.views id ≡ some v) (held : v.held ≡ (p, x) ∷ hs) (once : held_at p hs ≡ None) where
    kv : Knows r limit passes m k.log s.words k.owner k.writer k.session_state id v
    kv = k.views id v at

    mine : (k.owner p ≡ id) × (p < r.parts) × (slice_index s.words (p + 1) ≡ 1) × (x ≡ replay r k.log p)
    mine = kv.held p x (ap (held_at p) held ∙ ap (λ b. if b then Some x else held_at p hs) (eq-eqb p p refl))

    word : (q : ℕ) → q ≢ p → slice_index (set s.words (p + 1) 0) (q + 1) ≡ slice_index s.words (q + 1)
    word q ne = get_or-set_other s.words (p + 1) (q + 1) 0 0 (λ e. ne (omega arith))

    word0 : slice_index (set s.words (p + 1) 0) 0 ≡ slice_index s.words 0
    word0 = get_or-set_other s.words (p + 1) 0 0 0 (λ e. omega arith)

    rest_held : (q : ℕ) → q ≢ p → held_at q v.held ≡ held_at q hs
    rest_held q ne = ap (held_at q) held ∙ ap (λ b. if b then Some x else held_at q hs) (ne_eqb p q (λ e. ne (sym e)))

    not_it : (q : ℕ) (y : S) → held_at q hs ≡ Some y → q ≢ p
    not_it q y h e = absurd (cc (sym once ∙ (ap (λ z. held_at z hs) (sym e) ∙ h)))

    pub given : Kept r limit passes m record {
      words = set s.words (p + 1) 0;
      homes = set s.homes p (some (Part x));
      views =
          set s.views id (without_first_held v hs);
    }
    given = let w : View M S E = without_first_held v hs in record {
      log = k.log;
      owner = k.owner;
      writer = k.writer;
      session_state = k.session_state;
      legal = k.legal;
      strangers = k.strangers;
      wide = length-set s.words (p + 1) 0 ∙ k.wide;
      deep = length-set s.homes p (some (Part x)) ∙ k.deep;
      reserved = reserved_else r.parts limit p s.homes (some (Part x)) (λ e. let g = mine.1 in omega (arith, e, g)) k.reserved;
      counted = rw word0 k.counted;
      numbers = (let t = total_set (λ (u : View M S E). length u.numbers) s.views id v w at in let o = k.numbers in
          omega (arith, t, o));
      room = (let t = total_set (λ (u : View M S E). u.room) s.views id v w at in let o = k.room in omega (arith, t, o, word0));
      parts = (λ q lt. ⊎_elim
          (λ e. subst (λ z. InPlace r limit passes m k.log (set s.words (p + 1) 0) (set s.homes p (some (Part x)))
          (set s.views id w) k.owner z) (sym e)
          (inl (
            get_or-set_same s.words (p + 1) 0 0 (let h = k.wide in let g = mine.1 in omega (arith, h, g)),
            set_here s.homes p (some (Part x)) (let h = k.deep in let g = mine.1 in omega (arith, h, g))
                ∙ ap (λ y. some (some (Part y))) mine.3,
          )))
          (λ ne. ⊎_elim
          (λ home. inl (word q ne ∙ home.0, set_else s.homes p q (some (Part x)) ne ∙ home.1))
          (λ out. inr (
            word q ne ∙ out.0,
            holds_set r limit passes m s.views id (k.owner q) q v w at
                (λ y h. (y, sym (rest_held q ne) ∙ h)) out.1,
          ))
          (k.parts q lt))
          (cases_eq q p));
      places = (λ j lt. let apart : get_elem? (set s.homes p (some (Part x))) (r.parts + j) ≡ get_elem? s.homes
          (r.parts + j) = set_else s.homes p (r.parts + j) (some (Part x)) (λ e. let g = mine.1 in omega (arith, g, e)) in
          ⊎_elim
          (λ b. inl (b.0, apart ∙ b.1))
          (λ f. inr (⊎_elim (λ g. inl (g.0, g.1, apart ∙ g.2))
          (λ a. inr (is_at_set r limit passes m s.views id (k.writer j) j v w at refl a)) f))
          (k.places j lt));
      views = (λ j u g. ⊎_elim
          (λ t. subst (λ (z : ℕ × View M S E). Knows r limit passes m k.log (set s.words (p + 1) 0) k.owner k.writer
          k.session_state z.0 z.1) (λ a. (sym t.0 a, t.1 a)) record {
            machine = kv.machine;
            seen = kv.seen;
            mine = kv.mine;
            told = kv.told;
            held = (λ q y h. let ne = not_it q y h in let o = kv.held q y (rest_held q ne ∙ h) in
                (o.0, o.1, word q ne ∙ o.2, o.3));
            place = kv.place;
            ready = kv.ready;
            over = (λ a b. let o = kv.over a b in omega (arith, o, word0));
            idle = (λ none_left. absurd (cc (sym held ∙ (kv.idle none_left).0)));
          })
          (λ t. let ku = k.views j u t.1 in record {
            machine = ku.machine;
            seen = ku.seen;
            mine = ku.mine;
            told = ku.told;
            held = (λ q y h. let o = ku.held q y h in let ne : q ≢ p = (λ e. t.0 (sym o.0 ∙ (ap k.owner e ∙ mine.0))) in
                (o.0, o.1, word q ne ∙ o.2, o.3));
            place = ku.place;
            ready = ku.ready;
            over = (λ a b. let o = ku.over a b in omega (arith, o, word0));
            idle = ku.idle;
          })
          (at_set s.views id j w u g));
    }

  pub gives_part : (slots id p : ℕ) (me : Me (Slot S E) (View M S E)) (x : S) (hs : List (ℕ × S)) (cs : List (ℕ × Slot S E)) →
      me.0.held ≡ (p, x) ∷ hs → held_at p hs ≡ None → me.1 ≡ (p, Part x) ∷ cs
      → Allows (Kept r limit passes m) slots id me (p + 1) (λ _. 0) (λ _. Gives (step slots (p + 1) 0 0 none) me 0)
  gives_part slots id p me x hs cs held once out s k deep at fits = (
    without_first_held me.0 hs,
    gives,
    tt,
    subst (λ hm. Kept r limit passes m record {
      words = set s.words (p + 1) 0;
      homes = hm;
      views =
          set s.views id (without_first_held me.0 hs);
    }) (sym (ap (put_back s.homes) out))
        (given s k id p me.0 x hs at held once),
    λ i. (without_first_held me.0 (rest_of (sym held i)), (ap rest out ∙ sym (ap rest_of out)) i),
  )

  module _ (s : State (Slot S E) (View M S E)) (k : Kept r limit passes m s) (id j : ℕ) (v : View M S E) (e : E) (xs : List S)
      (at : get_elem? s.views id ≡ some v) (place : v.place ≡ Some j) (said : v.said ≡ Some (e, xs)) where
    kw : Knows r limit passes m k.log s.words k.owner k.writer k.session_state id v
    kw = k.views id v at

    logged : (x : Entry S E) × (get_elem? k.log j ≡ some x) × (x.event ≡ e)
    logged = let t = (kw.place j place).1 in let pair : ◌≡◌ {A = E × List S} (t.0.event, t.0.news) (e, xs) =
        cc (sym t.2 ∙ said) in (t.0, t.1, ap (λ (q : E × List S). q.0) pair)

    below : j < limit
    below = let h : j < length k.log = place_of k.log j logged.0 logged.1 in let c = k.counted in omega (arith, h, c)

    pub written : Kept r limit passes m record {
      words = s.words;
      homes = set s.homes (r.parts + j) (some (Place e));
      views =
          set s.views id (placed v);
    }
    written = let w : View M S E = placed v in record {
      log = k.log;
      owner = k.owner;
      writer = k.writer;
      session_state = k.session_state;
      legal = k.legal;
      strangers = k.strangers;
      wide = k.wide;
      deep = length-set s.homes (r.parts + j) (some (Place e)) ∙ k.deep;
      reserved = reserved_else r.parts limit (r.parts + j) s.homes (some (Place e)) (λ i. omega (arith, i, below)) k.reserved;
      counted = k.counted;
      numbers = (let t = total_set (λ (u : View M S E). length u.numbers) s.views id v w at in let o = k.numbers in
          omega (arith, t, o));
      room = (let t = total_set (λ (u : View M S E). u.room) s.views id v w at in let o = k.room in omega (arith, t, o));
      parts = (λ p lt. let apart : get_elem? (set s.homes (r.parts + j) (some (Place e))) p ≡ get_elem? s.homes p =
          set_else s.homes (r.parts + j) p (some (Place e)) (λ e. omega arith) in ⊎_elim
          (λ home. inl (home.0, apart ∙ home.1))
          (λ out. inr (out.0, holds_set r limit passes m s.views id (k.owner p) p v w at (λ y h. (y, h)) out.1))
          (k.parts p lt));
      places = (λ q lt. ⊎_elim
          (λ e'. inr (inl (
            logged.0,
            ap (λ z. get_elem? k.log z) e' ∙ logged.1,
            ap (λ z. get_elem? (set s.homes (r.parts + j) (some (Place e))) (r.parts + z)) e'
                ∙ (set_here s.homes (r.parts + j) (some (Place e)) (let d = k.deep in omega (arith, d, below))
                ∙ ap (λ y. some (some (Place y))) (sym logged.2)),
          )))
          (λ ne. let apart : get_elem? (set s.homes (r.parts + j) (some (Place e))) (r.parts + q) ≡ get_elem? s.homes
          (r.parts + q) = set_else s.homes (r.parts + j) (r.parts + q) (some (Place e)) (λ e. ne (omega arith)) in ⊎_elim
          (λ b. inl (b.0, apart ∙ b.1))
          (λ f. inr (⊎_elim (λ g. inl (g.0, g.1, apart ∙ g.2)) (λ a. inr (⊎_elim
          (λ i. let same : v ≡ a.0 = some-injective v a.0 (sym at ∙ (ap (λ z. get_elem? s.views z) (sym i) ∙ a.1)) in
          absurd (ne (sym (cc (sym place ∙ (ap (λ (u : View M S E). u.place) same ∙ a.2))))))
          (λ i. (a.0, set_else s.views id (k.writer q) w i ∙ a.1, a.2))
          (cases_eq (k.writer q) id))) f))
          (k.places q lt))
          (cases_eq q j));
      views = (λ i u g. ⊎_elim
          (λ t. subst (λ (z : ℕ × View M S E). Knows r limit passes m k.log s.words k.owner k.writer k.session_state z.0 z.1)
          (λ a. (sym t.0 a, t.1 a)) record {
            machine = kw.machine;
            seen = kw.seen;
            mine = kw.mine;
            told = kw.told;
            held = kw.held;
            place = (λ q h. absurd (cc h));
            ready = kw.ready;
            over = kw.over;
            idle = (λ h. let o = kw.idle h in (o.0, refl, o.2));
          })
          (λ t. k.views i u t.1)
          (at_set s.views id i w u g));
    }

  pub places_event : (slots id j : ℕ) (me : Me (Slot S E) (View M S E)) (e : E) (xs : List S) (cs : List (ℕ × Slot S E)) →
      me.0.place ≡ Some j → me.0.said ≡ Some (e, xs) → me.1 ≡ (r.parts + j, Place e) ∷ cs
      → Allows (Kept r limit passes m) slots id me 0 (λ n. n) (Places (step slots 0 0 0 none) me)
  places_event slots id j me e xs cs place said out s k deep at fits = (
    placed me.0,
    gives,
    tt,
    subst (λ (z : List ℕ × List (maybe.Option (Slot S E))). Kept r limit passes m record {
      words = z.0;
      homes = z.1;
      views =
          set s.views id (placed me.0);
    })
        (λ i. (sym (same_word s.words 0) i, ap (put_back s.homes) (sym out) i)) (written s k id j me.0 e xs at place said),
    λ i. (placed me.0, (ap rest out ∙ sym (ap rest_of out)) i),
  )
