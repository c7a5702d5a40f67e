-- The table as it is made meets the rule.
use Rattle.std.proofs.Common.{◌≡◌, ℕ, zero, suc, ◌+◌, ◌<◌, ◌||◌, true, List, [], ◌∷◌, map, length, sym, refl, ap, ◌∙◌, subst, inl, ⊎_elim, arith, ne_eqb, slice_index, Vec, Global}
use Rattle.std.proofs.lemmas.Bool.{cases_eq}
use mathlib.Core.Option.{some, some-ne-none}
use lib.ListN.{get_elem?}
use Rattle.atomic_table.specs.Table.{opening}
use Rattle.atomic_table.proofs.Lists.{at_map}
use Rattle.part_table.specs.declared.rule.Slot.{Slot}
use Rattle.part_table.specs.declared.rule.Slot.TheVariants.{Part, Lists, Empty}
use Rattle.part_table.specs.declared.rule.View.{View}
use Rattle.part_table.specs.History.{Rules}
use Rattle.part_table.specs.Rule.{HasRoom, Kept, Knows, first_view, is_in, numbers_from}
use Rattle.part_table.proofs.Splitting.{at_end}

pub map_length : {A B : Type 0} (f : A → B) (xs : List A) → length (map f xs) ≡ length xs
map_length f [] = refl
map_length f (x ∷ xs) = ap suc (map_length f xs)

pub count_length : (k n : ℕ) → length (numbers_from k n) ≡ n
count_length k zero = refl
count_length k (suc n) = let h = count_length (k + 1) n in omega (arith, h)

pub counted_below : (q k n : ℕ) → is_in q (numbers_from k n) ≡ true → q < k + n
counted_below q k zero h = absurd (cc h)
counted_below q k (suc n) h = ⊎_elim
    (λ (e : k ≡ q). omega (arith, e))
    (λ ne. let t : q < k + 1 + n =
    counted_below q (k + 1) n (sym (ap (λ b. b || is_in q (numbers_from (k + 1) n)) (ne_eqb k q ne)) ∙ h) in
    omega (arith, t))
    (cases_eq k q)

pub no_numbers : (n : ℕ) → n ≡ 0 → numbers_from 0 n ≡ []
no_numbers n e = ap (numbers_from 0) e

module _ {M S E : Type 0} (r : Rules S E) (limit passes : ℕ) (m : M) where
  pub opens : (ws : List ℕ) (slots : List (Slot S E)) → length ws ≡ r.parts + 1 →
      ((i : ℕ) → i < length ws → slice_index ws i ≡ 0) → length slots ≡ r.parts + limit + 1
      → ((p : ℕ) → p < r.parts → get_elem? slots p ≡ some (Part (r.opening p))) →
      ((j : ℕ) → j < limit → get_elem? slots (r.parts + j) ≡ some Empty)
      → (xs : Vec S Global) (es : Vec E Global) → get_elem? slots (r.parts + limit) ≡ some (Lists xs es) →
      HasRoom r.parts limit xs es
      → Kept r limit passes m (opening ws slots (first_view m r.parts limit passes))
  opens ws slots wide zeros deep parts places xs es lists room = let v : View M S E = first_view m r.parts limit passes in
      let word0 : slice_index ws 0 ≡ 0 = zeros 0 (omega (arith, wide)) in
      let many : length v.numbers ≡ passes = count_length 0 passes in record {
        log = [];
        owner = (λ p. 0);
        writer = (λ j. 0);
        session_state = (λ k. 0);
        legal = tt;
        strangers = (λ k past. refl);
        wide = wide;
        deep = map_length (λ (x : Slot S E). some x) slots ∙ deep;
        reserved = (xs, es, at_map some slots (r.parts + limit) (Lists xs es) lists, room);
        counted = (omega (arith, word0));
        numbers = (omega (arith, many));
        room = (omega (arith, word0));
        parts = (λ p lt. inl (zeros (p + 1) (omega (arith, wide, lt)), at_map some slots p (Part (r.opening p)) (parts p lt)));
        places = (λ j lt. inl (omega arith, at_map some slots (r.parts + j) Empty (places j lt)));
        views = (λ id u g. ⊎_elim
            (λ t. absurd (some-ne-none u (sym t)))
            (λ t. subst (λ (z : ℕ × View M S E). Knows r limit passes m [] ws (λ p. 0) (λ j. 0) (λ k. 0) z.0 z.1)
            (λ a. (sym t.0 a, t.1 a)) record {
              machine = (λ q e. (sym (cc e), refl, refl));
              seen = ([], refl);
              mine = (λ k h. (refl, (let b : k < 0 + passes = counted_below k 0 passes h in omega (arith, b)), refl));
              told = (λ i k xs h. absurd (some-ne-none (k, xs) (sym h)));
              held = (λ p x h. absurd (cc h));
              place = (λ j h. absurd (cc h));
              ready = (λ h. absurd (cc h));
              over = (λ active none_left. absurd (active (no_numbers passes none_left)));
              idle = (λ h. (refl, refl, sym many ∙ ap (λ (l : List ℕ). length l) h));
            })
            (at_end [] v u id g));
      }
