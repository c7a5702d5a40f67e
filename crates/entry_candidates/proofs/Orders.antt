-- The orders of transactions and keys, and the test for the same transaction.
use Rattle.std.proofs.Common.{false, inl, inr, refl, true, ◌≡◌, ◌≢◌, ◌⊎◌, arith}
use Rattle.std.specs.Cmp.{IsTotalOrder, on_total, then_total}
use Rattle.std.specs.declared.cmp.Ordering.{Ordering}
use Rattle.std.specs.declared.cmp.Ordering.TheVariants.{Less, Equal, Greater}
use Rattle.std.proofs.lemmas.Bool.Decides.{nat_tests}
use Rattle.std.proofs.lemmas.Cmp.{nat_cmp_total, nat_list_cmp_total}
use Rattle.ignite_types.proofs.NameLaws.{same_tx_itself, same_tx_true}
use Rattle.ignite_types.specs.Names.{same_tx}
use Rattle.ignite_types.specs.declared.names.TxId.{TxId}

module _ {K : Type 0} (cmp : K → K → Ordering) (exact : (x y : K) → cmp x y ≡ Equal → x ≡ y) where
  -- two names are the same or compare unequal
  pub same_or_apart : (a b : K) → (a ≡ b) ⊎ (cmp a b ≢ Equal)
  same_or_apart a b =
      elim (cmp a b) as (λ r. cmp a b ≡ r → (a ≡ b) ⊎ (cmp a b ≢ Equal)) [
        | Less ↦ λ g. inr (λ h. absurd (cc))
        | Equal ↦ λ g. inl (exact a b g)
        | Greater ↦ λ g. inr (λ h. absurd (cc))
      ] refl

pub same_tx_apart : (a b : TxId) → a ≢ b → same_tx a b ≡ false
same_tx_apart a b apart =
    elim (same_tx a b) as (λ r. same_tx a b ≡ r → r ≡ false) [
      | true ↦ λ g. absurd (apart (same_tx_true a b g))
      | false ↦ λ g. refl
    ] refl

pub tx_or_other : (a b : TxId) → (a ≡ b) ⊎ (a ≢ b)
tx_or_other a b =
    elim (same_tx a b) as (λ r. same_tx a b ≡ r → (a ≡ b) ⊎ (a ≢ b)) [
      | true ↦ λ g. inl (same_tx_true a b g)
      | false ↦ λ g. inr (λ h. let itself = same_tx_itself b in let apart = rw h at g in absurd (cc))
    ] refl
