-- A map that is sorted by its keys has its entries in order.
use Rattle.std.proofs.Common.{◌≡◌, [], ◌∷◌, nat_eq, refl, sym, ◌∙◌}
use Rattle.std.specs.Cmp.Lexicographic.{pointwise, nat_list_cmp_total, texts_ties}
use Rattle.std.specs.List.{IsDistinct}
use Rattle.std.specs.List.Sorted.{IsSorted}
use Rattle.std.proofs.lemmas.List.Sorted.{IsPermutation-refl}
use Rattle.std.specs.Map.{keys_of, lookup}
use Rattle.std.proofs.lemmas.Map.Lookups.{exact_bytes}
use Rattle.ordered_table.specs.Places.{IsAscending, IsBelowAll}
use Rattle.hash_table.specs.ByKey.{by_key}
use Rattle.hash_table.proofs.Ordered.{same_entries}
use Rattle.hash_table.proofs.Sorting.{sorted_keys}
use Rattle.hash_table.proofs.Tables.{ascending_by_key, at_by_key}
use Rattle.audit_core.specs.Histories.{Bytes, PlainEntries, bytes_cmp}

below_alike : (k : Bytes) (es fs : PlainEntries) → keys_of es ≡ keys_of fs → IsBelowAll bytes_cmp k fs →
    IsBelowAll bytes_cmp k es
below_alike k [] fs same below = tt
below_alike k (e ∷ es) [] same below = absurd (cc)
below_alike k (e ∷ es) (f ∷ fs) same below =
    let first : e.0 ≡ f.0 = cc in
    let rest : keys_of es ≡ keys_of fs = cc in
    (rw first below.0, below_alike k es fs rest below.1)

ascending_alike : (es fs : PlainEntries) → keys_of es ≡ keys_of fs → IsAscending bytes_cmp fs → IsAscending bytes_cmp es
ascending_alike [] fs same up = tt
ascending_alike (e ∷ es) [] same up = absurd (cc)
ascending_alike (e ∷ es) (f ∷ fs) same up =
    let first : e.0 ≡ f.0 = cc in
    let rest : keys_of es ≡ keys_of fs = cc in
    (rw first (below_alike f.0 es fs rest up.0), ascending_alike es fs rest up.1)

by_key_same : (es : PlainEntries) → IsAscending bytes_cmp es → by_key bytes_cmp es ≡ es
by_key_same [] up = refl
by_key_same (e ∷ []) up = refl
by_key_same (e ∷ f ∷ fs) up = rw (by_key_same (f ∷ fs) up.1, up.0.0) refl

-- the entries of a map once it is sorted
pub sorted_entries : (old new : PlainEntries) → IsDistinct (pointwise nat_eq) (keys_of new) →
    IsSorted bytes_cmp (keys_of new) → ((q : Bytes) → lookup (pointwise nat_eq q) new ≡ lookup (pointwise nat_eq q) old) →
    new ≡ by_key bytes_cmp old
sorted_entries old new distinct sorted found =
    let keys = sorted_keys bytes_cmp (pointwise nat_eq) nat_list_cmp_total texts_ties exact_bytes new (keys_of new) distinct
    (IsPermutation-refl (keys_of new)) sorted in
    let up = ascending_alike new (by_key bytes_cmp new) keys (ascending_by_key bytes_cmp nat_list_cmp_total new) in
    sym (by_key_same new up)
    ∙ same_entries bytes_cmp nat_list_cmp_total exact_bytes (by_key bytes_cmp new) (by_key bytes_cmp old)
    (ascending_by_key bytes_cmp nat_list_cmp_total new) (ascending_by_key bytes_cmp nat_list_cmp_total old)
    (λ q. at_by_key bytes_cmp (pointwise nat_eq) nat_list_cmp_total texts_ties exact_bytes new q ∙ found q
    ∙ sym (at_by_key bytes_cmp (pointwise nat_eq) nat_list_cmp_total texts_ties exact_bytes old q))
