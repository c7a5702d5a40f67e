-- An edit keeps the keys ascending.
use Rattle.std.proofs.Common.{◌≡◌, List, [], ◌∷◌, ◌∙◌, refl}
use Rattle.std.specs.declared.cmp.Ordering.{Ordering}
use Rattle.std.specs.declared.cmp.Ordering.TheVariants.{Less, Equal, Greater}
use Rattle.std.specs.Cmp.{IsTotalOrder}
use Rattle.std.specs.Ordering.{match_ordering}
use Rattle.ordered_table.specs.Entries.{put, without}
use Rattle.ordered_table.specs.Places.{IsBelowAll, IsAscending}
use Rattle.ordered_table.proofs.Orders.{greater_back}

module _ {K V : Type 0} (cmp : K → K → Ordering) (o : IsTotalOrder cmp) where
  -- a key below another one is below all that this one is below
  pub below_all-less : (j k : K) (es : List (K × V)) → cmp j k ≡ Less → IsBelowAll cmp k es → IsBelowAll cmp j es
  below_all-less j k [] less below = tt
  below_all-less j k (e ∷ es) less below = (o.trans j k e.0 less below.0, below_all-less j k es less below.1)

  -- a key tied with another one is below all that this one is below
  pub below_all-equal : (j k : K) (es : List (K × V)) → cmp j k ≡ Equal → IsBelowAll cmp k es → IsBelowAll cmp j es
  below_all-equal j k [] tied below = tt
  below_all-equal j k (e ∷ es) tied below = (o.congr j k e.0 tied ∙ below.0, below_all-equal j k es tied below.1)

  below_all-put : (j : K) (es : List (K × V)) (k : K) (v : V) → cmp j k ≡ Less → IsBelowAll cmp j es →
      IsBelowAll cmp j (put cmp es k v)
  below_all-put j [] k v less below = (less, tt)
  below_all-put j (e ∷ es) k v less below =
      elim (cmp k e.0) as (λ r. IsBelowAll cmp j (match_ordering r ((k, v) ∷ e ∷ es) ((k, v) ∷ es) (e ∷ put cmp es k v))) [
        | Less ↦ (less, below)
        | Equal ↦ (less, below.1)
        | Greater ↦ (below.0, below_all-put j es k v less below.1)
      ]

  below_all-without : (j : K) (es : List (K × V)) (k : K) → IsBelowAll cmp j es → IsBelowAll cmp j (without cmp es k)
  below_all-without j [] k below = tt
  below_all-without j (e ∷ es) k below =
      elim (cmp k e.0) as (λ r. IsBelowAll cmp j (match_ordering r (e ∷ es) es (e ∷ without cmp es k))) [
        | Less ↦ below
        | Equal ↦ below.1
        | Greater ↦ (below.0, below_all-without j es k below.1)
      ]

  pub ascending_put : (es : List (K × V)) (k : K) (v : V) → IsAscending cmp es → IsAscending cmp (put cmp es k v)
  ascending_put [] k v ascending = (tt, tt)
  ascending_put (e ∷ es) k v ascending =
      elim (cmp k e.0) as (λ r. cmp k e.0 ≡ r →
      IsAscending cmp (match_ordering r ((k, v) ∷ e ∷ es) ((k, v) ∷ es) (e ∷ put cmp es k v))) [
        | Less ↦ λ g. ((g, below_all-less k e.0 es g ascending.0), ascending)
        | Equal ↦ λ g. (below_all-equal k e.0 es g ascending.0, ascending.1)
        | Greater ↦ λ g. (below_all-put e.0 es k v (greater_back o k e.0 g) ascending.0, ascending_put es k v ascending.1)
      ] refl

  pub ascending_without : (es : List (K × V)) (k : K) → IsAscending cmp es → IsAscending cmp (without cmp es k)
  ascending_without [] k ascending = tt
  ascending_without (e ∷ es) k ascending =
      elim (cmp k e.0) as (λ r. IsAscending cmp (match_ordering r (e ∷ es) es (e ∷ without cmp es k))) [
        | Less ↦ ascending
        | Equal ↦ ascending.1
        | Greater ↦ (below_all-without e.0 es k ascending.0, ascending_without es k ascending.1)
      ]
