-- A seat with several pass numbers is cut in two.
use Rattle.std.proofs.Common.{◌≡◌, ℕ, zero, suc, ◌+◌, ◌-◌, ◌<◌, ◌≢◌, ◌⊎◌, ◌||◌, ◌==◌, false, List, [], ◌∷◌, ◌++◌, length, set, sym, refl, ap, ◌∙◌, subst, inl, inr, ⊎_elim, arith, length-set, eq-eqb, ne_eqb, None}
use Rattle.std.proofs.lemmas.Bool.{cases_eq}
use mathlib.Core.Option.{some, some-injective, some-ne-none}
use lib.ListN.{get_elem?}
use Rattle.atomic_table.specs.Table.{Splits}
use Rattle.atomic_table.proofs.Lists.{at_set, at_longer}
use Rattle.part_table.specs.declared.rule.View.{View}
use Rattle.part_table.specs.History.{Rules, held_at, own}
use Rattle.part_table.specs.Rule.{Kept, Knows, is_in, sum_of_views}
use Rattle.part_table.proofs.Taking.{total_set, place_of, but, but_same, but_else, holds_set, is_at_set}

pub total_snoc : {A : Type 0} (f : A → ℕ) (xs : List A) (y : A) → sum_of_views f (xs ++ y ∷ []) ≡ sum_of_views f xs + f y
total_snoc f [] y = omega arith
total_snoc f (x ∷ xs) y = let h = total_snoc f xs y in omega (arith, h)

pub at_end : {A : Type 0} (l : List A) (a b : A) (j : ℕ) → get_elem? (l ++ a ∷ []) j ≡ some b → (get_elem? l j ≡ some b)
    ⊎ ((j ≡ length l) × (a ≡ b))
at_end [] a b zero e = inr (refl, some-injective a b e)
at_end [] a b (suc j) e = absurd (some-ne-none b (sym e))
at_end (x ∷ xs) a b zero e = inl e
at_end (x ∷ xs) a b (suc j) e = ⊎_elim (λ t. inl t) (λ t. inr (ap suc t.0, t.1)) (at_end xs a b j e)

module _ {M S E : Type 0} (r : Rules S E) (limit passes : ℕ) (m : M) where
  abbrev pub left_of : View M S E → List ℕ → View M S E
  left_of v ks = record v { numbers = ks; room = v.room - 1 }

  abbrev pub right_of : View M S E → ℕ → View M S E
  right_of v k = record v { numbers = k ∷ []; room = 1 }

  pub splits : (id number : ℕ) (ks : List ℕ) (v : View M S E) → v.numbers ≡ number ∷ ks → ks ≢ [] → is_in number ks ≡ false →
      1 < v.room → v.held ≡ [] → v.place ≡ None → v.told ≡ []
      → Splits (Kept r limit passes m) id v (left_of v ks) (right_of v number)
  splits id number ks v numbers active once room held place told s k at =
      let kv = k.views id v at in let lv : View M S E = left_of v ks in let rv : View M S E = right_of v number in
      let new : ℕ = length s.views in let before : List (View M S E) = set s.views id lv in
      let more : length before ≡ new = length-set s.views id lv in
      let own_number : (q : ℕ) → is_in q v.numbers ≡ (number == q) || is_in q ks = (λ q. ap (is_in q) numbers) in
      let mine_number = kv.mine number (own_number number ∙ ap (λ b. b || is_in number ks) (eq-eqb number number refl)) in
      record {
        log = k.log;
        owner = k.owner;
        writer = k.writer;
        session_state = but k.session_state number new;
        legal = k.legal;
        strangers = k.strangers;
        wide = k.wide;
        deep = k.deep;
        reserved = k.reserved;
        counted = k.counted;
        numbers = (let t = total_set (λ (u : View M S E). length u.numbers) s.views id v lv at in let o = k.numbers in let l =
            ap (λ (l : List ℕ). length l) numbers in
            let e = total_snoc (λ (u : View M S E). length u.numbers) before rv in omega (arith, t, o, l, e));
        room = (let t = total_set (λ (u : View M S E). u.room) s.views id v lv at in let o = k.room in let e =
            total_snoc (λ (u : View M S E). u.room) before rv in omega (arith, t, o, e, room));
        parts = (λ p lt. ⊎_elim (λ h. inl h)
            (λ out. inr (
              out.0,
              let h = holds_set r limit passes m s.views id (k.owner p) p v lv at (λ y e. (y, e)) out.1 in
                  (h.0, h.1, at_longer before (rv ∷ []) (k.owner p) h.0 h.2, h.3),
            ))
            (k.parts p lt));
        places = (λ j lt. ⊎_elim (λ b. inl b) (λ f. inr (⊎_elim (λ g. inl g)
            (λ a. inr (let h = is_at_set r limit passes m s.views id (k.writer j) j v lv at refl a in
            (h.0, at_longer before (rv ∷ []) (k.writer j) h.0 h.1, h.2))) f)) (k.places j lt));
        views = (λ j u g. ⊎_elim
            (λ t. ⊎_elim
            (λ h. subst (λ (z : ℕ × View M S E). Knows r limit passes m k.log s.words k.owner k.writer
            (but k.session_state number new) z.0 z.1) (λ a. (sym h.0 a, h.1 a)) record {
              machine = kv.machine;
              seen = kv.seen;
              mine = (λ q i. let ne : q ≢ number = (λ e. absurd (cc (sym once ∙ (ap (λ z. is_in z ks) (sym e) ∙ i)))) in
                  let o = kv.mine q (own_number q ∙ (ap (λ b. b || is_in q ks) (ne_eqb number q (λ e. ne (sym e))) ∙ i)) in
                  (but_else k.session_state number new q ne ∙ o.0, o.1, o.2));
              told = (λ i q xs e. absurd (some-ne-none (q, xs) (sym (ap (λ l. get_elem? l i) (sym told) ∙ e))));
              held = kv.held;
              place = kv.place;
              ready = (λ _. omega (arith, room));
              over = (λ _ z. absurd (omega (arith, room, z)));
              idle = (λ e. absurd (active e));
            })
            (λ h. let ku = k.views j u h.1 in let below : j < new = place_of s.views j u h.1 in record {
              machine = ku.machine;
              seen = ku.seen;
              mine = (λ q i. let o = ku.mine q i in let ne : q ≢ number =
                  (λ e. h.0 (sym o.0 ∙ (ap k.session_state e ∙ mine_number.0))) in
                  (but_else k.session_state number new q ne ∙ o.0, o.1, o.2));
              told = ku.told;
              held = ku.held;
              place = ku.place;
              ready = ku.ready;
              over = ku.over;
              idle = ku.idle;
            })
            (at_set s.views id j lv u t))
            (λ t. subst (λ (z : ℕ × View M S E). Knows r limit passes m k.log s.words k.owner k.writer
            (but k.session_state number new) z.0 z.1) (λ a. ((sym more ∙ sym t.0) a, t.1 a)) record {
              machine = kv.machine;
              seen = kv.seen;
              mine = (λ q i. let is : number ≡ q =
                  ⊎_elim (λ e. e) (λ ne. absurd (cc (sym i ∙ ap (λ b. b || false) (ne_eqb number q ne)))) (cases_eq number q) in (
                    ap (but k.session_state number new) (sym is) ∙ but_same k.session_state number new,
                    subst (λ z. z < passes) is mine_number.1,
                    subst (λ z. own z k.log ≡ own z v.seen) is mine_number.2,
                  ));
              told = (λ i q xs e. absurd (some-ne-none (q, xs) (sym (ap (λ l. get_elem? l i) (sym told) ∙ e))));
              held = (λ p x e. absurd (cc (sym e ∙ ap (held_at p) held)));
              place = (λ j e. absurd (cc (sym e ∙ place)));
              ready = (λ _. omega arith);
              over = (λ _ z. absurd (omega (arith, z)));
              idle = (λ e. absurd (cc e));
            })
            (at_end before rv u j g));
      }
