-- What a set with one more member has.
use Rattle.std.proofs.Common.{◌≡◌, ◌⊎◌, inl, inr, List, [], ◌∷◌, true, false, Some, None, refl, ap, sym}
use Rattle.std.specs.Option.{is_some}
use Rattle.std.specs.Ordering.{match_ordering}
use Rattle.std.specs.declared.cmp.Ordering.TheVariants.{Less, Equal, Greater}
use Rattle.ignite_types.proofs.NameLaws.{exact_keys, key_total}
use Rattle.ignite_types.specs.Names.{key_cmp}
use Rattle.ignite_types.specs.declared.text.Key.{Key}
use Rattle.ordered_set.specs.Members.{has, with_member}
use Rattle.ordered_table.proofs.Laws as laws
use Rattle.ordered_table.specs.Entries.{at, put}
use Rattle.transaction_laws.proofs.Tables.{put_elim}

-- Sets, as tables of their members.

abbrev as_table : {K : Type 0} → List K → List (K × Unit {0})
as_table [] = []
as_table (x ∷ xs) = (x, tt) ∷ as_table xs

has_as : (xs : List Key) (k : Key) → has key_cmp xs k ≡ is_some (at key_cmp (as_table xs) k)
has_as [] k = refl
has_as (x ∷ xs) k =
    elim (key_cmp k x) as (λ r. match_ordering r false true (has key_cmp xs k) ≡ is_some
    (match_ordering r None (Some tt) (at key_cmp (as_table xs) k))) [
      | Less ↦ refl
      | Equal ↦ refl
      | Greater ↦ has_as xs k
    ]

table_with : (xs : List Key) (k : Key) → as_table (with_member key_cmp xs k) ≡ put key_cmp (as_table xs) k tt
table_with [] k = refl
table_with (x ∷ xs) k =
    elim (key_cmp k x) as (λ r. key_cmp k x ≡ r →
    as_table (match_ordering r (k ∷ x ∷ xs) (x ∷ xs) (x ∷ with_member key_cmp xs k)) ≡ match_ordering r
    ((k, tt) ∷ (x, tt) ∷ as_table xs) ((k, tt) ∷ as_table xs) ((x, tt) ∷ put key_cmp (as_table xs) k tt)) [
      | Less ↦ λ g. refl
      | Equal ↦ λ g. ap (λ (y : Key). (y, tt) ∷ as_table xs) (sym (exact_keys k x g))
      | Greater ↦ λ g. ap (λ rest. (x, tt) ∷ rest) (table_with xs k)
    ] refl

-- a set with one more member has it
pub has_itself : (xs : List Key) (k : Key) → has key_cmp (with_member key_cmp xs k) k ≡ true
has_itself xs k = rw (
  has_as (with_member key_cmp xs k) k,
  table_with xs k,
  laws.at_put_same key_cmp key_total (as_table xs) k tt,
) refl

-- what a set with one more member has
pub has_with : (xs : List Key) (k q : Key) → ((q ≡ k) × (has key_cmp (with_member key_cmp xs k) q ≡ true))
    ⊎ (has key_cmp (with_member key_cmp xs k) q ≡ has key_cmp xs q)
has_with xs k q =
    rw (has_as (with_member key_cmp xs k) q, table_with xs k, has_as xs q)
    (put_elim key_cmp key_total exact_keys (λ q x. ((q ≡ k) × (is_some x ≡ true))
    ⊎ (is_some x ≡ is_some (at key_cmp (as_table xs) q))) (as_table xs) k tt (inl (refl, refl)) (λ q ne. inr refl) q)
