-- Where a key stands in a list of entries whose keys ascend, and what an edit at that place makes of the list.
use Rattle.std.specs.Prelude.{◌≡◌, ℕ, ◌<◌, ◌≤◌, List, [], ◌∷◌, length, slice_index_or, slice_set, insert, remove, Some, None}
use Rattle.std.specs.declared.cmp.Ordering.{Ordering}
use Rattle.std.specs.declared.cmp.Ordering.TheVariants.{Less}
use Rattle.ordered_table.specs.Entries.{at, put, without}

-- the key is below that of each entry
abbrev pub IsBelowAll : {K V : Type 0} → (K → K → Ordering) → K → List (K × V) → Type 0
IsBelowAll cmp k [] = Unit {0}
IsBelowAll cmp k (e ∷ es) = (cmp k e.0 ≡ Less) × IsBelowAll cmp k es

-- each key is below those after it
abbrev pub IsAscending : {K V : Type 0} → (K → K → Ordering) → List (K × V) → Type 0
IsAscending cmp [] = Unit {0}
IsAscending cmp (e ∷ es) = IsBelowAll cmp e.0 es × IsAscending cmp es

-- the entry of the key stands at place i
pub record IsFound {K V : Type 0} (cmp : K → K → Ordering) (es : List (K × V)) (k : K) (i : ℕ) : Type 0 where
  pub within : i < length es
  pub value : (d : K × V) → at cmp es k ≡ Some (slice_index_or es i d).1
  pub write : (v : V) → put cmp es k v ≡ slice_set es i (k, v)
  pub rest : without cmp es k ≡ remove es i
  pub write_ascends : (v : V) → IsAscending cmp (slice_set es i (k, v))
  pub rest_ascends : IsAscending cmp (remove es i)

-- no entry has the key, and one that has it belongs at place i
pub record IsMissing {K V : Type 0} (cmp : K → K → Ordering) (es : List (K × V)) (k : K) (i : ℕ) : Type 0 where
  pub within : i ≤ length es
  pub value : at cmp es k ≡ None
  pub write : (v : V) → put cmp es k v ≡ insert es i (k, v)
  pub rest : without cmp es k ≡ es
  pub write_ascends : (v : V) → IsAscending cmp (insert es i (k, v))
