use Rattle.std.proofs.Common.{arith, ◌≡◌, ℕ, suc, ◌<◌, List, [], ◌∷◌, map, length, slice_index_or, ap, sym, ◌∙◌, refl, subst, IsPermutation}
use Rattle.std.proofs.lemmas.List.Sorted.{IsPermutation-refl}
use Rattle.part_table.specs.Rule.{numbers_from}
use Rattle.part_table.proofs.tests.many_workers_share_two_parts.Goals as goal

same_numbers : {A : Type 0} (xs ys : List A) (f : A → ℕ) → length ys ≡ length xs →
    ((i : ℕ) (d : A) → i < length xs → f (slice_index_or ys i d) ≡ f (slice_index_or xs i d)) → map f ys ≡ map f xs
same_numbers [] [] f e h = refl
same_numbers [] (y ∷ ys) f e h = absurd (omega (arith, e))
same_numbers (x ∷ xs) [] f e h = absurd (omega (arith, e))
same_numbers (x ∷ xs) (y ∷ ys) f e h =
    let first : f y ≡ f x = h 0 x (let q : 0 < length (x ∷ xs) = omega arith in q) in
    let others = same_numbers xs ys f (omega (arith, e)) (λ i d lt. h (suc i) d (omega (arith, lt))) in
    λ i. first i ∷ others i

pub close-states-requires-clause-each : goal.close-states-requires-clause-each
close-states-requires-clause-each g c κs =
    let made = c.in_ok-parts.ensures in let back = c.in_ok-passes.ensures in
    let same = same_numbers c.in_ok-parts.passes.items c.in_ok-passes.passes.items (λ p. p.number) back.count back.numbers in
    subst (IsPermutation (map (λ p. p.number) c.in_ok-passes.passes.items))
    (same ∙ (made.numbers ∙ ap (numbers_from 0) (sym (ap (λ k. k.passes) made.table.2))))
    (IsPermutation-refl (map (λ p. p.number) c.in_ok-passes.passes.items))
