-- Two seats become one.
use Rattle.std.proofs.Common.{◌≡◌, ℕ, zero, suc, ◌≢◌, ◌⊎◌, ◌||◌, if◌then◌else◌, Bool, true, false, List, [], ◌∷◌, ◌++◌, length, set, sym, refl, ap, ◌∙◌, subst, inl, inr, ⊎_elim, arith, length-append, eq-eqb, ne_eqb, None, append_assoc}
use Rattle.std.proofs.lemmas.Bool.{cases_eq}
use Rattle.std.proofs.lemmas.List.{append-nil}
use mathlib.Core.List.{IsPrefix}
use mathlib.Core.Option.{some, some-injective, some-ne-none}
use lib.ListN.{get_elem?}
use Rattle.atomic_table.specs.Table.{Joins}
use Rattle.atomic_table.proofs.Lists.{at_set, at_longer, set_else}
use Rattle.part_table.specs.declared.rule.Entry.{Entry}
use Rattle.part_table.specs.declared.rule.View.{View}
use Rattle.part_table.specs.History.{Rules, held_at, own}
use Rattle.part_table.specs.Rule.{Kept, Knows, Recalls, both, is_in, longer, recall, spent, tells}
use Rattle.part_table.proofs.Taking.{total_set, holds_set, is_at_set}
use Rattle.part_table.proofs.Histories.{prefix_self}
use Rattle.part_table.proofs.Committing.{own_append}

-- the longer of two beginnings has both, and is one
pub longer_has : {A : Type 0} (xs ys log : List A) → IsPrefix xs log → IsPrefix ys log → IsPrefix (longer xs ys) log
    × IsPrefix xs (longer xs ys) × IsPrefix ys (longer xs ys)
longer_has [] ys log p q = (q, (ys, refl), prefix_self ys)
longer_has (x ∷ xs) [] log p q = (p, prefix_self (x ∷ xs), (x ∷ xs, refl))
longer_has (x ∷ xs) (y ∷ ys) [] p q = absurd (cc p.1)
longer_has (x ∷ xs) (y ∷ ys) (z ∷ zs) p q =
    let first : x ≡ z = cc p.1 in let other : y ≡ z = cc q.1 in
    let t = longer_has xs ys zs (p.0, cc p.1) (q.0, cc q.1) in
    ((t.0.0, (λ i. first i ∷ t.0.1 i)), (t.1.0, ap (λ l. x ∷ l) t.1.1), (t.2.0, (λ i. (other ∙ sym first) i ∷ t.2.1 i)))

pub both_empty : {A : Type 0} (xs ys : List A) → xs ++ ys ≡ [] → (xs ≡ []) × (ys ≡ [])
both_empty [] ys e = (refl, e)
both_empty (x ∷ xs) ys e = absurd (cc e)

pub same_start : {A : Type 0} (xs ys : List A) → xs ++ ys ≡ xs → ys ≡ []
same_start [] ys h = h
same_start (x ∷ xs) ys h = same_start xs ys (cc h)

-- what the whole has of a pass and a beginning has too, each list between them has
pub squeezed : {S E : Type 0} (k : ℕ) (xs ys log : List (Entry S E)) → IsPrefix xs ys → IsPrefix ys log →
    own k log ≡ own k xs → own k log ≡ own k ys
squeezed k xs ys log p q h =
    let a : own k ys ≡ own k xs ++ own k p.0 = ap (own k) (sym p.1) ∙ own_append k xs p.0 in
    let b : own k log ≡ own k ys ++ own k q.0 = ap (own k) (sym q.1) ∙ own_append k ys q.0 in
    let c : own k xs ++ (own k p.0 ++ own k q.0) ≡ own k xs = sym (append_assoc (own k xs) (own k p.0) (own k q.0))
    ∙ (ap (λ l. l ++ own k q.0) (sym a) ∙ (sym b ∙ h)) in
    let none_between : own k p.0 ≡ [] =
    (both_empty (own k p.0) (own k q.0) (same_start (own k xs) (own k p.0 ++ own k q.0) c)).0 in
    let d : own k xs ++ [] ≡ own k xs = append-nil (own k xs) in
    h ∙ sym (a ∙ (ap (λ l. own k xs ++ l) none_between ∙ d))

pub yes_no : (b : Bool) → (b ≡ true) ⊎ (b ≡ false)
yes_no true = inl refl
yes_no false = inr refl

pub in_both : (q : ℕ) (xs ys : List ℕ) → is_in q (xs ++ ys) ≡ true → (is_in q xs ≡ true) ⊎ (is_in q ys ≡ true)
in_both q [] ys h = inr h
in_both q (x ∷ xs) ys h = ⊎_elim
    (λ (e : x ≡ q). inl (ap (λ b. b || is_in q xs) (eq-eqb x q e)))
    (λ ne. let f = ne_eqb x q ne in ⊎_elim (λ a. inl (ap (λ b. b || is_in q xs) f ∙ a)) (λ b. inr b)
    (in_both q xs ys (sym (ap (λ b. b || is_in q (xs ++ ys)) f) ∙ h)))
    (cases_eq x q)

pub in_left : (q : ℕ) (xs ys : List ℕ) → is_in q xs ≡ true → is_in q (xs ++ ys) ≡ true
in_left q [] ys h = absurd (cc h)
in_left q (x ∷ xs) ys h = ⊎_elim
    (λ (e : x ≡ q). ap (λ b. b || is_in q (xs ++ ys)) (eq-eqb x q e))
    (λ ne. let f = ne_eqb x q ne in ap (λ b. b || is_in q (xs ++ ys)) f ∙ in_left q xs ys (sym (ap (λ b. b || is_in q xs) f)
    ∙ h))
    (cases_eq x q)

pub in_right : (q : ℕ) (xs ys : List ℕ) → is_in q ys ≡ true → is_in q (xs ++ ys) ≡ true
in_right q [] ys h = h
in_right q (x ∷ xs) ys h = ⊎_elim
    (λ (e : x ≡ q). ap (λ b. b || is_in q (xs ++ ys)) (eq-eqb x q e))
    (λ ne. ap (λ b. b || is_in q (xs ++ ys)) (ne_eqb x q ne) ∙ in_right q xs ys h)
    (cases_eq x q)

pub at_append : {A : Type 0} (xs ys : List A) (i : ℕ) (a : A) → get_elem? (xs ++ ys) i ≡ some a → (get_elem? xs i ≡ some a)
    ⊎ ((j : ℕ) × (get_elem? ys j ≡ some a))
at_append [] ys i a e = inr (i, e)
at_append (x ∷ xs) ys zero a e = inl e
at_append (x ∷ xs) ys (suc i) a e = at_append xs ys i a e

pub at_after : {A : Type 0} (xs ys : List A) (j : ℕ) (a : A) → get_elem? ys j ≡ some a → (i : ℕ)
    × (get_elem? (xs ++ ys) i ≡ some a)
at_after [] ys j a e = (j, e)
at_after (x ∷ xs) ys j a e = let t = at_after xs ys j a e in (suc t.0, t.1)

pub of_tells : {S E : Type 0} (ks : List ℕ) (w : List (Entry S E)) (i k : ℕ) (xs : List (Entry S E)) →
    get_elem? (tells ks w) i ≡ some (k, xs) → (is_in k ks ≡ true) × (w ≡ xs)
of_tells [] w i k xs e = absurd (some-ne-none (k, xs) (sym e))
of_tells {S} {E} (q ∷ ks) w zero k xs e = let p : ◌≡◌ {A = ℕ × List (Entry S E)} (q, w) (k, xs) =
    some-injective (q, w) (k, xs) e in (
      ap (λ b. b || is_in k ks) (eq-eqb q k (ap (λ (z : ℕ × List (Entry S E)). z.0) p)),
      ap (λ (z : ℕ × List (Entry S E)). z.1) p,
    )
of_tells (q ∷ ks) w (suc i) k xs e = let t = of_tells ks w i k xs e in (in_right k (q ∷ []) ks t.0, t.1)

module _ {M S E : Type 0} (r : Rules S E) (limit passes : ℕ) (m : M) where
  -- what a seat recalls is so
  pub recalled : (log : List (Entry S E)) (words : List ℕ) (owner writer session_state : ℕ → ℕ) (id : ℕ) (v : View M S E) →
      Knows r limit passes m log words owner writer session_state id v
      → (i k : ℕ) (xs : List (Entry S E)) → get_elem? (recall v) i ≡ some (k, xs) → (is_in k v.numbers ≡ true)
      × IsPrefix xs log × (own k log ≡ own k xs)
  recalled log words owner writer session_state id v kv i k xs e = ⊎_elim
      (λ t. let o = of_tells v.numbers v.seen i k xs t in (
        o.0,
        subst (λ l. IsPrefix l log) o.1 kv.seen,
        (kv.mine k o.0).2
            ∙ ap (own k) o.1,
      ))
      (λ t. kv.told t.0 k xs t.1)
      (at_append (tells v.numbers v.seen) v.told i (k, xs) e)

  abbrev pub moved : (ℕ → ℕ) → List ℕ → ℕ → ℕ → ℕ
  moved session_state ks id q = if is_in q ks then id else session_state q

  pub joins : (id other : ℕ) (v w : View M S E) → v.numbers ≢ [] → w.held ≡ [] → w.place ≡ None →
      Joins (Kept r limit passes m) id v other w (both v w) spent
  joins id other v w active held place s k at apart at_other =
      let b : View M S E = both v w in
      let z : View M S E = spent in
      let first : List (View M S E) = set s.views id b in
      let kv = k.views id v at in
      let there : get_elem? s.views other ≡ some w = sym (set_else s.views id other b apart) ∙ at_other in
      let kw = k.views other w there in
      let lg = longer_has v.seen w.seen k.log kv.seen kw.seen in
      let session_state' : ℕ → ℕ = moved k.session_state w.numbers id in
      record {
        log = k.log;
        owner = k.owner;
        writer = k.writer;
        session_state = session_state';
        legal = k.legal;
        strangers = k.strangers;
        wide = k.wide;
        deep = k.deep;
        reserved = k.reserved;
        counted = k.counted;
        numbers = (let t = total_set (λ (u : View M S E). length u.numbers) s.views id v b at in let u =
            total_set (λ (u : View M S E). length u.numbers) first other w z at_other in let o = k.numbers in
            let l = length-append v.numbers w.numbers in omega (arith, t, u, o, l));
        room = (let t = total_set (λ (u : View M S E). u.room) s.views id v b at in let u =
            total_set (λ (u : View M S E). u.room) first other w z at_other in let o = k.room in omega (arith, t, u, o));
        parts = (λ p lt. ⊎_elim (λ h. inl h)
            (λ out. inr (
              out.0,
              holds_set r limit passes m first other (k.owner p) p w z at_other
                  (λ y h. absurd (cc (sym h ∙ ap (held_at p) held)))
                  (holds_set r limit passes m s.views id (k.owner p) p v b at (λ y e. (y, e)) out.1),
            ))
            (k.parts p lt));
        places = (λ j lt. ⊎_elim (λ h. inl h) (λ f. inr (⊎_elim (λ g. inl g)
            (λ a. inr (is_at_set r limit passes m first other (k.writer j) j w z at_other (sym place)
            (is_at_set r limit passes m s.views id (k.writer j) j v b at refl a))) f)) (k.places j lt));
        views = (λ j u g. ⊎_elim
            (λ t. subst (λ (z : ℕ × View M S E). Knows r limit passes m k.log s.words k.owner k.writer session_state' z.0 z.1)
            (λ a. (sym t.0 a, t.1 a)) record {
              machine = (λ q e. absurd (cc e));
              seen = (k.log, refl);
              mine = (λ q e. absurd (cc e));
              told = (λ i q xs e. absurd (some-ne-none (q, xs) (sym e)));
              held = (λ p x e. absurd (cc e));
              place = (λ q e. absurd (cc e));
              ready = (λ e. absurd (cc e));
              over = (λ a _. absurd (a refl));
              idle = (λ _. (refl, refl, refl));
            })
            (λ t. ⊎_elim
            (λ h. subst (λ (z : ℕ × View M S E). Knows r limit passes m k.log s.words k.owner k.writer session_state' z.0 z.1)
            (λ a. (sym h.0 a, h.1 a)) record {
              machine = kv.machine;
              seen = lg.0;
              mine = (λ q i. ⊎_elim
                  (λ (theirs : is_in q w.numbers ≡ true). let o = kw.mine q theirs in (
                    ap (λ c. if c then id else k.session_state q) theirs,
                    o.1,
                    squeezed q w.seen (longer v.seen w.seen) k.log lg.2 lg.0 o.2,
                  ))
                  (λ (not : is_in q w.numbers ≡ false). ⊎_elim
                  (λ own_one. let o = kv.mine q own_one in (
                    ap (λ c. if c then id else k.session_state q) not ∙ o.0,
                    o.1,
                    squeezed q v.seen (longer v.seen w.seen) k.log lg.1 lg.0 o.2,
                  ))
                  (λ theirs. absurd (cc (sym not ∙ theirs)))
                  (in_both q v.numbers w.numbers i))
                  (yes_no (is_in q w.numbers)));
              told = (λ i q xs e. ⊎_elim
                  (λ own_one. let o = recalled k.log s.words k.owner k.writer k.session_state id v kv i q xs own_one in
                  (in_left q v.numbers w.numbers o.0, o.1, o.2))
                  (λ theirs. let o = recalled k.log s.words k.owner k.writer k.session_state other w kw theirs.0 q xs theirs.1
                  in (in_right q v.numbers w.numbers o.0, o.1, o.2))
                  (at_append (recall v) (recall w) i (q, xs) e));
              held = kv.held;
              place = kv.place;
              ready = (λ e. let o = kv.ready e in omega (arith, o));
              over = (λ _ e. kv.over active (omega (arith, e)));
              idle = (λ e. absurd (active (both_empty v.numbers w.numbers e).0));
            })
            (λ h. let ku = k.views j u h.1 in record {
              machine = ku.machine;
              seen = ku.seen;
              mine = (λ q i. let o = ku.mine q i in ⊎_elim
                  (λ (theirs : is_in q w.numbers ≡ true). absurd (t.0 (sym o.0 ∙ (kw.mine q theirs).0)))
                  (λ (not : is_in q w.numbers ≡ false). (ap (λ c. if c then id else k.session_state q) not ∙ o.0, o.1, o.2))
                  (yes_no (is_in q w.numbers)));
              told = ku.told;
              held = ku.held;
              place = ku.place;
              ready = ku.ready;
              over = ku.over;
              idle = ku.idle;
            })
            (at_set s.views id j b u t.1))
            (at_set first other j z u g));
      }

module _ {M S E : Type 0} where
  -- what either seat recalls, both recall
  pub recalls_left : (v w : View M S E) (k : ℕ) (xs : List (Entry S E)) → Recalls v k xs → Recalls (both v w) k xs
  recalls_left v w k xs h = at_after (tells (v.numbers ++ w.numbers) (longer v.seen w.seen)) (recall v ++ recall w) h.0 (
    k,
    xs,
  ) (at_longer (recall v) (recall w) h.0 (k, xs) h.1)

  pub recalls_right : (v w : View M S E) (k : ℕ) (xs : List (Entry S E)) → Recalls w k xs → Recalls (both v w) k xs
  recalls_right v w k xs h = let t = at_after (recall v) (recall w) h.0 (k, xs) h.1 in
      at_after (tells (v.numbers ++ w.numbers) (longer v.seen w.seen)) (recall v ++ recall w) t.0 (k, xs) t.1

  -- a seat with one number recalls it
  pub recalls_own : (v : View M S E) (k : ℕ) → v.numbers ≡ k ∷ [] → Recalls v k v.seen
  recalls_own v k e = (0, ap (λ ks. get_elem? (tells ks v.seen ++ v.told) 0) e)
