-- A table that is built entry by entry from one in order.
use Rattle.std.proofs.Common.{◌≡◌, ℕ, ◌+◌, ◌<◌, zero, suc, List, [], ◌∷◌, length, take, get_or, refl, ap, arith, add-one}
use Rattle.std.specs.declared.cmp.Ordering.TheVariants.{Less}
use Rattle.std.specs.declared.cmp.Ordering.{Ordering}
use Rattle.std.specs.Cmp.{IsTotalOrder}
use Rattle.ordered_table.specs.Entries.{put}
use Rattle.ordered_table.specs.Places.{IsBelowAll, IsAscending}
use Rattle.ordered_table.proofs.Orders.{less_back}

module _ {K V : Type 0} (cmp : K → K → Ordering) (o : IsTotalOrder cmp) where
  below_at : (k : K) (es : List (K × V)) (i : ℕ) (d : K × V) → IsBelowAll cmp k es → i < length es →
      cmp k (get_or es i d).0 ≡ Less
  below_at k [] i d below l = absurd (omega arith)
  below_at k (e ∷ es) zero d below l = below.0
  below_at k (e ∷ es) (suc i) d below l = below_at k es i d below.1 (omega arith)

  put_next : (es : List (K × V)) (i : ℕ) (d : K × V) → IsAscending cmp es → i < length es →
      put cmp (take i es) (get_or es i d).0 (get_or es i d).1 ≡ take (suc i) es
  put_next [] i d ascending l = absurd (omega arith)
  put_next (e ∷ es) zero d ascending l = refl
  put_next (e ∷ es) (suc i) d ascending l =
      let more : i < length es = omega arith in
      rw (less_back o e.0 (get_or es i d).0 (below_at e.0 es i d ascending.0 more))
      (ap (λ r. e ∷ r) (put_next es i d ascending.1 more))

  -- one entry more of the copy
  pub copied_more : (es : List (K × V)) (i : ℕ) (d : K × V) → IsAscending cmp es → i < length es →
      put cmp (take i es) (get_or es i d).0 (get_or es i d).1 ≡ take (i + 1) es
  copied_more es i d ascending l = rw (add-one i) (put_next es i d ascending l)
