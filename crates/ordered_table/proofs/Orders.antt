-- What an order says of two keys the other way round.
use Rattle.std.proofs.Common.{true, ◌≡◌, ◌≤◌, ◌∙◌, ap, refl, arith}
use Rattle.std.specs.declared.cmp.Ordering.{Ordering}
use Rattle.std.specs.declared.cmp.Ordering.TheVariants.{Less, Equal, Greater}
use Rattle.std.specs.Cmp.{IsTotalOrder}
use Rattle.std.specs.Ordering.{ordering_reverse, ordering_index, is_lt}

pub least_is_less : (r : Ordering) → ordering_index r ≤ 0 → r ≡ Less
least_is_less Less le = refl
least_is_less Equal le = absurd (omega arith)
least_is_less Greater le = absurd (omega arith)

pub less_from_test : (r : Ordering) → is_lt r ≡ true → r ≡ Less
less_from_test Less test = refl
less_from_test Equal test = absurd (cc)
less_from_test Greater test = absurd (cc)

module _ {K : Type 0} {cmp : K → K → Ordering} (o : IsTotalOrder cmp) where
  pub less_back : (x y : K) → cmp x y ≡ Less → cmp y x ≡ Greater
  less_back x y h = o.antisymm y x ∙ ap ordering_reverse h

  pub greater_back : (x y : K) → cmp x y ≡ Greater → cmp y x ≡ Less
  greater_back x y h = o.antisymm y x ∙ ap ordering_reverse h

  -- of two keys the greater one compares with any third at least as the other does
  pub comparison_rises : (x y k : K) → cmp x y ≡ Less → ordering_index (cmp x k) ≤ ordering_index (cmp y k)
  comparison_rises x y k h =
      elim (cmp x k) as (λ r. cmp x k ≡ r → ordering_index r ≤ ordering_index (cmp y k)) [
        | Less ↦ λ g. omega arith
        | Equal ↦ λ g. rw (less_back k y (cc (o.congr x k y g))) (omega arith)
        | Greater ↦ λ g. rw (less_back k y (o.trans k x y (greater_back x k g) h)) (omega arith)
      ] refl
