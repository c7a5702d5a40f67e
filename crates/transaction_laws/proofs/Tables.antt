-- Tables and functions that are written at one place.
use Rattle.std.proofs.Common.{◌≡◌, ◌≢◌, ◌⊎◌, inl, inr, List, true, false, Option, Some, None, refl, sym, subst, arith}
use Rattle.std.specs.declared.cmp.Ordering.TheVariants.{Less, Equal, Greater}
use Rattle.std.specs.Cmp.{IsTotalOrder}
use Rattle.std.proofs.lemmas.Cmp.{tied_itself}
use Rattle.std.proofs.lemmas.Map.Lookups.{CmpEqualImpliesEq}
use Rattle.std.specs.declared.cmp.Ordering.{Ordering}
use Rattle.ordered_table.proofs.Laws as laws
use Rattle.ordered_table.specs.Entries.{at, put, without}
use Rattle.ordered_table.specs.Places.{IsAscending}
use Rattle.std.proofs.lemmas.Bool.Decides.{nat_tests}
use Rattle.ignite_types.proofs.NameLaws.{exact_txs}
use Rattle.ignite_types.specs.Names.{same_tx}
use Rattle.ignite_types.specs.declared.names.TxId.{TxId}

-- one name, or two
pub tx_tells : (t u : TxId) → ((same_tx t u ≡ true) × (t ≡ u)) ⊎ ((same_tx t u ≡ false) × (t ≢ u))
tx_tells t u =
    elim (same_tx t u) as (λ b. same_tx t u ≡ b → ((b ≡ true) × (t ≡ u)) ⊎ ((b ≡ false) × (t ≢ u))) [
      | true ↦ λ g. inl (refl, exact_txs t u (grind (arith, nat_tests, g)))
      | false ↦ λ g. inr (refl, λ e. absurd (grind (arith, nat_tests, g, e)))
    ] refl

-- equal or not, by the comparison
same_or : {K : Type 0} (cmp : K → K → Ordering) → CmpEqualImpliesEq cmp → (k q : K) → (q ≡ k) ⊎ (cmp q k ≢ Equal)
same_or cmp exact k q =
    elim (cmp q k) as (λ r. cmp q k ≡ r → (q ≡ k) ⊎ (cmp q k ≢ Equal)) [
      | Less ↦ λ g. inr (λ h. absurd (cc))
      | Equal ↦ λ g. inl (exact q k g)
      | Greater ↦ λ g. inr (λ h. absurd (cc))
    ] refl

module _ {K V : Type 0} (cmp : K → K → Ordering) (o : IsTotalOrder cmp) (exact : CmpEqualImpliesEq cmp) where
  pub put_elim : (P : K → Option V → Type 0) (es : List (K × V)) (k : K) (v : V) → P k (Some v) →
      ((q : K) → (q ≡ k → ⊥) → P q (at cmp es q)) → (q : K) → P q (at cmp (put cmp es k v) q)
  put_elim P es k v here rest q = go (same_or cmp exact k q)
    where
      go : (q ≡ k) ⊎ (cmp q k ≢ Equal) → P q (at cmp (put cmp es k v) q)
      go (inl e) = subst (λ (x : K). P x (at cmp (put cmp es k v) x)) (sym e)
          (subst (P k) (sym (laws.at_put_same cmp o es k v)) here)
      go (inr ne) = subst (P q) (sym (laws.at_put_other cmp o es k q v ne))
          (rest q (λ e. ne (subst (λ (x : K). cmp x k ≡ Equal) (sym e) (tied_itself o k))))

  pub without_elim : (P : K → Option V → Type 0) (es : List (K × V)) (k : K) → IsAscending cmp es → P k None →
      ((q : K) → (q ≡ k → ⊥) → P q (at cmp es q)) → (q : K) → P q (at cmp (without cmp es k) q)
  without_elim P es k up here rest q = go (same_or cmp exact k q)
    where
      go : (q ≡ k) ⊎ (cmp q k ≢ Equal) → P q (at cmp (without cmp es k) q)
      go (inl e) = subst (λ (x : K). P x (at cmp (without cmp es k) x)) (sym e)
          (subst (P k) (sym (laws.at_without cmp o es k up)) here)
      go (inr ne) = subst (P q) (sym (laws.at_without_other cmp o es k q up ne))
          (rest q (λ e. ne (subst (λ (x : K). cmp x k ≡ Equal) (sym e) (tied_itself o k))))
