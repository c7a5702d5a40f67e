-- The steps that take a part and give it back keep the rule.
use Rattle.std.proofs.Common.{◌≡◌, ℕ, zero, suc, ◌+◌, ◌-◌, ◌<◌, ◌≢◌, ◌==◌, if◌then◌else◌, List, [], ◌∷◌, ◌++◌, length, Option, set, sym, refl, ap, ◌∙◌, subst, inl, inr, ⊎_elim, arith, length-set, get_or-set_other, get_or-set_same, eq-eqb, ne_eqb, Some, None, slice_index, MatchBool}
use Rattle.std.proofs.lemmas.Bool.{cases_eq}
use mathlib.Core.Option.{some, none, some-injective, some-ne-none}
use mathlib.Core.Option as maybe
use lib.ListN.{get_elem?}
use prog.Atomic.{either}
use Rattle.atomic_table.specs.Table.{State, Me, Act, step, keeps, takes, stepped, Valid, carried_after, rest, Allows}
use Rattle.atomic_table.proofs.Lists.{at_set, set_here, set_else, set_again, exchanged}
use Rattle.part_table.specs.declared.rule.Entry.{Entry}
use Rattle.part_table.specs.declared.rule.Slot.{Slot}
use Rattle.part_table.specs.declared.rule.Slot.TheVariants.{Part}
use Rattle.part_table.specs.declared.rule.View.{View}
use Rattle.part_table.specs.History.{Rules, held_at, replay}
use Rattle.part_table.specs.Rule.{Holds, InPlace, IsAt, Kept, Knows, Reserved, Takes, holding, sum_of_views}

pub total_set : {A : Type 0} (f : A → ℕ) (xs : List A) (i : ℕ) (x y : A) → get_elem? xs i ≡ some x →
    sum_of_views f (set xs i y) + f x ≡ sum_of_views f xs + f y
total_set f [] i x y e = absurd (some-ne-none x (sym e))
total_set f (z ∷ zs) zero x y e = let h = ap f (some-injective z x e) in omega (arith, h)
total_set f (z ∷ zs) (suc i) x y e = let h = total_set f zs i x y e in omega (arith, h)

pub place_of : {A : Type 0} (xs : List A) (i : ℕ) (x : A) → get_elem? xs i ≡ some x → i < length xs
place_of [] i x e = absurd (some-ne-none x (sym e))
place_of (y ∷ ys) zero x e = omega arith
place_of (y ∷ ys) (suc i) x e = let h = place_of ys i x e in omega (arith, h)

pub here : {A : Type 0} (xs : List A) (i : ℕ) (x y : A) → get_elem? xs i ≡ some x → get_elem? (set xs i y) i ≡ some y
here xs i x y e = set_here xs i y (place_of xs i x e)

-- a list of one value at each place, with another one at p
abbrev pub but : (ℕ → ℕ) → ℕ → ℕ → ℕ → ℕ
but f p n q = if q == p then n else f q

pub but_same : (f : ℕ → ℕ) (p n : ℕ) → but f p n p ≡ n
but_same f p n = ap (λ b. if b then n else f p) (eq-eqb p p refl)

pub but_else : (f : ℕ → ℕ) (p n q : ℕ) → q ≢ p → but f p n q ≡ f q
but_else f p n q ne = ap (λ b. if b then n else f q) (ne_eqb q p ne)

-- what lies behind the journal lies there still, where another slot changed
pub reserved_else : {S E : Type 0} (parts limit i : ℕ) (homes : List (maybe.Option (Slot S E)))
    (o : maybe.Option (Slot S E)) → i ≢ parts + limit → Reserved parts limit homes → Reserved parts limit (set homes i o)
reserved_else parts limit i homes o ne h = (h.0, h.1, set_else homes i (parts + limit) o (λ e. ne (sym e)) ∙ h.2, h.3)

pub same_word : (words : List ℕ) (i : ℕ) → set words i (slice_index words i) ≡ words
same_word [] i = refl
same_word (x ∷ xs) zero = refl
same_word (x ∷ xs) (suc i) = ap (λ l. x ∷ l) (same_word xs i)

pub held_more : {S : Type 0} (p q : ℕ) (x : S) (hs : List (ℕ × S)) → q ≢ p → held_at q (hs ++ (p, x) ∷ []) ≡ held_at q hs
held_more p q x [] ne = ap (λ b. if b then Some x else None) (ne_eqb p q (λ e. ne (sym e)))
held_more p q x (h ∷ hs) ne = ap (λ o. if h.0 == q then Some h.1 else o) (held_more p q x hs ne)

pub held_new : {S : Type 0} (p : ℕ) (x : S) (hs : List (ℕ × S)) → held_at p hs ≡ None → held_at p (hs ++ (p, x) ∷ []) ≡ Some x
held_new p x [] e = ap (λ b. if b then Some x else None) (eq-eqb p p refl)
held_new p x (h ∷ hs) e = ⊎_elim
    (λ same. absurd (cc (sym (ap (λ b. if b then Some h.1 else held_at p hs) (eq-eqb h.0 p same)) ∙ e)))
    (λ ne. let f = ne_eqb h.0 p ne in let e' : held_at p hs ≡ None = sym (ap (λ b. if b then Some h.1 else held_at p hs) f)
    ∙ e in
    ap (λ b. if b then Some h.1 else held_at p (hs ++ (p, x) ∷ [])) f ∙ held_new p x hs e')
    (cases_eq h.0 p)

pub none_if : {S : Type 0} (o : Option S) → ((y : S) → o ≡ Some y → ⊥) → o ≡ None
none_if None f = refl
none_if (Some y) f = absurd (f y refl)

module _ {M S E : Type 0} (r : Rules S E) (limit passes : ℕ) (m : M) where
  abbrev pub St : Type 0
  St = State (Slot S E) (View M S E)

  abbrev pub Vw : Type 0
  Vw = View M S E

  pub holds_set : (views : List Vw) (id o q : ℕ) (v w : Vw) → get_elem? views id ≡ some v →
      ((y : S) → held_at q v.held ≡ Some y → (z : S) × (held_at q w.held ≡ Some z)) → Holds views o q →
      Holds (set views id w) o q
  holds_set views id o q v w at more h = ⊎_elim
      (λ e. let same : v ≡ h.0 = some-injective v h.0 (sym at ∙ (ap (λ k. get_elem? views k) (sym e) ∙ h.2)) in let y =
      more h.1 (ap (λ (u : Vw). held_at q u.held) same ∙ h.3) in
      (w, y.0, ap (λ k. get_elem? (set views id w) k) e ∙ here views id v w at, y.1))
      (λ ne. (h.0, h.1, set_else views id o w ne ∙ h.2, h.3))
      (cases_eq o id)

  pub is_at_set : (views : List Vw) (id o j : ℕ) (v w : Vw) → get_elem? views id ≡ some v → w.place ≡ v.place →
      IsAt views o j → IsAt (set views id w) o j
  is_at_set views id o j v w at same h = ⊎_elim
      (λ e. let is : v ≡ h.0 = some-injective v h.0 (sym at ∙ (ap (λ k. get_elem? views k) (sym e) ∙ h.1)) in
      (w, ap (λ k. get_elem? (set views id w) k) e ∙ here views id v w at, same ∙ (ap (λ (u : Vw). u.place) is ∙ h.2)))
      (λ ne. (h.0, set_else views id o w ne ∙ h.1, h.2))
      (cases_eq o id)

  -- another seat's knowledge, where the part p that was at home has gone to the seat id
  others : (log : List (Entry S E)) (words : List ℕ) (owner writer session_state : ℕ → ℕ) (id p j : ℕ) (u : Vw) →
      slice_index words (p + 1) ≡ 0
      → Knows r limit passes m log words owner writer session_state j u → Knows r limit passes m log (set words (p + 1) 1)
      (but owner p id) writer session_state j u
  others log words owner writer session_state id p j u free k = record {
    machine = k.machine;
    seen = k.seen;
    mine = k.mine;
    told = k.told;
    held = (λ q y h. let t = k.held q y h in let ne : q ≢ p =
        (λ e. let o : slice_index words (p + 1) ≡ 1 = subst (λ (z : ℕ). slice_index words (z + 1) ≡ 1) e t.2 in
        omega (arith, o, free)) in
        (but_else owner p id q ne ∙ t.0, t.1, get_or-set_other words (p + 1) (q + 1) 1 0 (λ e. ne (omega arith)) ∙ t.2, t.3));
    place = k.place;
    ready = k.ready;
    over = (λ some_number none_left. let o = k.over some_number none_left in let z =
        get_or-set_other words (p + 1) 0 1 0 (λ e. omega arith) in omega (arith, o, z));
    idle = k.idle;
  }

  own_word : (words : List ℕ) (p : ℕ) → length words ≡ r.parts + 1 → p < r.parts → p + 1 < length words
  own_word words p wide in_range = omega (arith, wide)

  absent : (log : List (Entry S E)) (words : List ℕ) (owner writer session_state : ℕ → ℕ) (id p : ℕ) (v : Vw) →
      slice_index words (p + 1) ≡ 0 → Knows r limit passes m log words owner writer session_state id v → held_at p v.held ≡ None
  absent log words owner writer session_state id p v free k = none_if (held_at p v.held) (λ y h. let o = (k.held p y h).2 in
      omega (arith, o, free))

  -- the seat's own knowledge, where it has taken the part p
  taker : (log : List (Entry S E)) (words : List ℕ) (owner writer session_state : ℕ → ℕ) (id p : ℕ) (x : S) (v : Vw) →
      length words ≡ r.parts + 1 → p < r.parts → v.numbers ≢ [] → x ≡ replay r log p → slice_index words (p + 1) ≡ 0
      → Knows r limit passes m log words owner writer session_state id v → Knows r limit passes m log (set words (p + 1) 1)
      (but owner p id) writer session_state id (holding v p x)
  taker log words owner writer session_state id p x v wide in_range active is free k = record {
    machine = k.machine;
    seen = k.seen;
    mine = k.mine;
    told = k.told;
    held = (λ q y h. ⊎_elim
        (λ e. let y_is : x ≡ y = cc (sym (held_new p x v.held (absent log words owner writer session_state id p v free k))
        ∙ (ap (λ z. held_at z (v.held ++ (p, x) ∷ [])) (sym e) ∙ h)) in (
          ap (but owner p id) e ∙ but_same owner p id,
          subst (λ (z : ℕ). z < r.parts) (sym e) in_range,
          ap (λ (z : ℕ). slice_index (set words (p + 1) 1) (z + 1)) e
              ∙ get_or-set_same words (p + 1) 1 0 (own_word words p wide in_range),
          sym y_is ∙ (is ∙ ap (replay r log) (sym e)),
        ))
        (λ ne. (others log words owner writer session_state id p id v free k).held q y (sym (held_more p q x v.held ne) ∙ h))
        (cases_eq q p));
    place = k.place;
    ready = k.ready;
    over = (others log words owner writer session_state id p id v free k).over;
    idle = (λ none_left. absurd (active none_left));
  }

  -- the part p goes out
  took : (s : St) (k : Kept r limit passes m s) (id p : ℕ) (v : Vw) (x : S) → get_elem? s.views id ≡ some v → p < r.parts →
      v.numbers ≢ [] → slice_index s.words (p + 1) ≡ 0 → x ≡ replay r k.log p
      → Kept r limit passes m record {
        words = set s.words (p + 1) 1;
        homes = set s.homes p none;
        views =
            set s.views id (holding v p x);
      }
  took s k id p v x at in_range active free is =
      let w : Vw = holding v p x in
      let word0 : slice_index (set s.words (p + 1) 1) 0 ≡ slice_index s.words 0 =
      get_or-set_other s.words (p + 1) 0 1 0 (λ e. omega arith) in record {
        log = k.log;
        owner = but k.owner p id;
        writer = k.writer;
        session_state = k.session_state;
        legal = k.legal;
        strangers = k.strangers;
        wide = length-set s.words (p + 1) 1 ∙ k.wide;
        deep = length-set s.homes p none ∙ k.deep;
        reserved = reserved_else r.parts limit p s.homes none (λ e. omega (arith, e, in_range)) k.reserved;
        counted = rw word0 k.counted;
        numbers = (let t = total_set (λ (u : Vw). length u.numbers) s.views id v w at in let n = k.numbers in
            omega (arith, t, n));
        room = (let t = total_set (λ (u : Vw). u.room) s.views id v w at in let n = k.room in omega (arith, t, n, word0));
        parts = (λ q lt. ⊎_elim
            (λ e. subst (λ z. InPlace r limit passes m k.log (set s.words (p + 1) 1) (set s.homes p none) (set s.views id w)
            (but k.owner p id) z) (sym e)
            (inr (
              get_or-set_same s.words (p + 1) 1 0 (own_word s.words p k.wide in_range),
              subst (λ o. Holds (set s.views id w) o p) (sym (but_same k.owner p id)) (
                w,
                x,
                here s.views id v w at,
                held_new p x v.held (absent k.log s.words k.owner k.writer k.session_state id p v free (k.views id v at)),
              ),
            )))
            (λ ne. let word : slice_index (set s.words (p + 1) 1) (q + 1) ≡ slice_index s.words (q + 1) =
            get_or-set_other s.words (p + 1) (q + 1) 1 0 (λ e. ne (omega arith)) in ⊎_elim
            (λ home. inl (word ∙ home.0, set_else s.homes p q none ne ∙ home.1))
            (λ out. inr (
              word ∙ out.0,
              subst (λ o. Holds (set s.views id w) o q) (sym (but_else k.owner p id q ne))
                  (holds_set s.views id (k.owner q) q v w at (λ y h. (y, held_more p q x v.held ne ∙ h)) out.1),
            ))
            (k.parts q lt))
            (cases_eq q p));
        places = (λ j lt. let apart : get_elem? (set s.homes p none) (r.parts + j) ≡ get_elem? s.homes (r.parts + j) =
            set_else s.homes p (r.parts + j) none (λ e. omega arith) in ⊎_elim
            (λ empty. inl (empty.0, apart ∙ empty.1))
            (λ full. inr (⊎_elim (λ f. inl (f.0, f.1, apart ∙ f.2))
            (λ a. inr (is_at_set s.views id (k.writer j) j v w at refl a)) full))
            (k.places j lt));
        views = (λ i u e. ⊎_elim
            (λ t. subst (λ (z : ℕ × Vw). Knows r limit passes m k.log (set s.words (p + 1) 1) (but k.owner p id) k.writer
            k.session_state z.0 z.1) (λ a. (sym t.0 a, t.1 a))
            (taker k.log s.words k.owner k.writer k.session_state id p x v k.wide in_range active is free
            (k.views id v at)))
            (λ t. others k.log s.words k.owner k.writer k.session_state id p i u free (k.views i u t.1))
            (at_set s.views id i w u e));
      }

  -- nothing changes
  stays : (s : St) (k : Kept r limit passes m s) (id i : ℕ) (v : Vw) → get_elem? s.views id ≡ some v →
      Kept r limit passes m record { words = set s.words i (slice_index s.words i); homes = s.homes; views = set s.views id v }
  stays s k id i v at = subst (λ (z : List ℕ × List Vw). Kept r limit passes m record {
    words = z.0;
    homes = s.homes;
    views =
        z.1;
  }) (λ a. (sym (same_word s.words i) a, sym (set_again s.views id v at) a)) k

  pub takes_part : (slots id p : ℕ) (me : Me (Slot S E) Vw) → p < r.parts → me.0.numbers ≢ [] →
      Allows (Kept r limit passes m) slots id me (p + 1) (λ n. either (n == 0) 1 n) (Takes (step slots (p + 1) 0 1 none) me)
  takes_part slots id p me in_range active s k deep at fits =
      let n : ℕ = slice_index s.words (p + 1) in let told = Takes (step slots (p + 1) 0 1 none) me in
      let held : S → Me (Slot S E) Vw = λ y. (holding me.0 (p + 1 - 1) y, (p + 1 - 1, Part y) ∷ me.1) in
      let Goes : ℕ → Type 0 = λ new. (w : Vw) × (a : Act (Slot S E)) × Valid s.homes me.1 a
      × Kept r limit passes m (stepped s (p + 1) new id me.1 w a) × told n (w, carried_after me.1 a) in
      exchanged n 0 1 Goes
      (λ free. let x : S = replay r k.log p in let back : p ≡ p + 1 - 1 = omega arith in
      let now : Me (Slot S E) Vw = (holding me.0 p x, (p, Part x) ∷ me.1) in ⊎_elim
      (λ home. (
        holding me.0 p x,
        takes p (Part x),
        home.1,
        took s k id p me.0 x at in_range active free refl,
        subst (λ b. MatchBool b ((y : S) × (now ≡ held y)) (now ≡ me)) (sym (eq-eqb n 0 free))
            (x, λ i. (holding me.0 (back i) x, (back i, Part x) ∷ me.1)),
      ))
      (λ out. let o = out.0 in absurd (omega (arith, o, free)))
      (k.parts p in_range))
      (λ taken. (
        me.0,
        keeps,
        tt,
        stays s k id (p + 1) me.0 at,
        subst (λ b. MatchBool b ((y : S) × (me ≡ held y)) (me ≡ me))
            (sym (ne_eqb n 0 taken)) refl,
      ))

-- what a seat has after it has taken a part
pub took_out : {M S E : Type 0} (slots p n : ℕ) (me after : Me (Slot S E) (View M S E)) → n ≡ 0 →
    Takes (step slots (p + 1) 0 1 none) me n after → (x : S) × (after ≡ (holding me.0 p x, (p, Part x) ∷ me.1))
took_out {M} {S} {E} slots p n me after is told =
    let held : S → Me (Slot S E) (View M S E) = λ y. (holding me.0 (p + 1 - 1) y, (p + 1 - 1, Part y) ∷ me.1) in
    let back : p + 1 - 1 ≡ p = omega arith in
    let t : (x : S) × (after ≡ held x) = subst (λ b. MatchBool b ((x : S) × (after ≡ held x)) (after ≡ me))
    (eq-eqb n 0 is) told in
    (t.0, t.1 ∙ (λ i. (holding me.0 (back i) t.0, (back i, Part t.0) ∷ me.1)))

pub first_slot : {A : Type 0} (xs rest_xs : List (ℕ × A)) (x : ℕ × A) → xs ≡ x ∷ rest_xs → xs ≡ x ∷ rest xs
first_slot xs ys x e = e ∙ (λ i. x ∷ sym (ap rest e) i)
