-- Keys that are taken out one by one, where a test tells which.
use Rattle.std.proofs.Common.{◌≡◌, Bool, true, false, List, [], ◌∷◌, cond, filter, not, refl, ap, sym, ◌∙◌}
use Rattle.std.specs.declared.cmp.Ordering.{Ordering}
use Rattle.std.specs.declared.cmp.Ordering.TheVariants.{Greater}
use Rattle.std.specs.Cmp.{IsTotalOrder, then_total, on_total, nat_cmp_total}
use Rattle.std.specs.Cmp.Lexicographic.{nat_list_cmp_total}
use Rattle.std.specs.Ordering.{ordering_reverse}
use Rattle.std.proofs.lemmas.Cmp.{tied_itself}
use Rattle.part_model.specs.Copies.{Copy, is_tombstone, without_tombstones}
use Rattle.part_model.specs.Tables.{keys_where, without_each}
use Rattle.ignite_types.proofs.NameLaws.{key_total}
use Rattle.ignite_types.specs.Names.{key_cmp}
use Rattle.ordered_table.specs.Entries.{without}
use Rattle.ordered_table.specs.Places.{IsBelowAll, IsAscending}

-- each of the keys is above this one
abbrev AreAbove : {K : Type 0} → (K → K → Ordering) → K → List K → Type 0
AreAbove cmp k [] = Unit {0}
AreAbove cmp k (j ∷ js) = (cmp j k ≡ Greater) × AreAbove cmp k js

module _ {K V : Type 0} (cmp : K → K → Ordering) where
  -- taking out keys above the first one leaves it
  first_stays : (e : K × V) (es : List (K × V)) (ks : List K) → AreAbove cmp e.0 ks →
      without_each cmp (e ∷ es) ks ≡ e ∷ without_each cmp es ks
  first_stays e es [] above = refl
  first_stays e es (k ∷ ks) above = rw above.0 (first_stays e (without cmp es k) ks above.1)

  module _ (o : IsTotalOrder cmp) (test : K × V → Bool) where
    above_first : (j : K) (es : List (K × V)) → IsBelowAll cmp j es → AreAbove cmp j (keys_where test es)
    above_first j [] below = tt
    above_first j (e ∷ es) below =
        elim (test e) as (λ b. AreAbove cmp j (cond b (e.0 ∷ keys_where test es) (keys_where test es))) [
          | true ↦ (o.antisymm e.0 j ∙ ap ordering_reverse below.0, above_first j es below.1)
          | false ↦ above_first j es below.1
        ]

    -- what stays is what fails the test
    pub without_passing : (es : List (K × V)) → IsAscending cmp es → filter (λ e. not (test e)) es ≡ without_each cmp es
        (keys_where test es)
    without_passing [] ascending = refl
    without_passing (e ∷ es) ascending =
        elim (test e) as (λ b. cond (not b) (e ∷ filter (λ e. not (test e)) es) (filter (λ e. not (test e)) es)
        ≡ without_each cmp (e ∷ es) (cond b (e.0 ∷ keys_where test es) (keys_where test es))) [
          | true ↦ rw (tied_itself o e.0, without_each) (without_passing es ascending.1)
          | false ↦ ap (λ r. e ∷ r) (without_passing es ascending.1)
              ∙ sym (first_stays e es (keys_where test es) (above_first e.0 es ascending.0))
        ]

pub tombstones_dropped : (copy : Copy) → IsAscending key_cmp copy → filter (λ e. not (is_tombstone e)) copy
    ≡ without_tombstones copy
tombstones_dropped copy ascending = without_passing key_cmp key_total is_tombstone copy ascending
