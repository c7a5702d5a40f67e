-- Several keys of a table at once.
use Rattle.std.specs.Prelude.{Bool, [], if◌then◌else◌, map, ◌∷◌}
use Rattle.std.specs.declared.cmp.Ordering.{Ordering}
use Rattle.ignite_types.specs.declared.list.List.{List}
use Rattle.ordered_table.specs.Entries.{without}

-- the table without these keys
abbrev pub without_each : {K V : Type 0} → (K → K → Ordering) → List (K × V) → List K → List (K × V)
without_each cmp es [] = es
without_each cmp es (k ∷ ks) = without_each cmp (without cmp es k) ks

-- the keys of the entries for which a test holds, in the table's order
abbrev pub keys_where : {K V : Type 0} → (K × V → Bool) → List (K × V) → List K
keys_where test [] = []
keys_where test (e ∷ es) = if test e then e.0 ∷ keys_where test es else keys_where test es

abbrev pub keys_in : {K V : Type 0} → List (K × V) → List K
keys_in es = map (λ e. e.0) es
