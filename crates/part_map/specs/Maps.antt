-- What a map says of a partition, by its number. A partition that the map lacks has no holders.
use Rattle.std.specs.Prelude.{ℕ, Bool, true, false, List, [], ◌∷◌, slice_get, Option, Some, None}
use Rattle.ignite_types.specs.declared.names.NodeId.{NodeId}
use Rattle.ignite_types.specs.declared.placement.PartMap.{PartMap}
use Rattle.ignite_types.specs.declared.placement.Row.{Row}

abbrev pub owners_of : Option Row → List NodeId
owners_of None = []
owners_of (Some row) = row.owners

abbrev pub movers_of_row : Option Row → List NodeId
movers_of_row None = []
movers_of_row (Some row) = row.movers

abbrev pub owners_at : PartMap → ℕ → List NodeId
owners_at map part = owners_of (slice_get map.rows part)

abbrev pub movers_at : PartMap → ℕ → List NodeId
movers_at map part = movers_of_row (slice_get map.rows part)

abbrev pub is_not_empty : List NodeId → Bool
is_not_empty [] = false
is_not_empty (node ∷ nodes) = true

-- whether the partition has an owner
abbrev pub runs : PartMap → ℕ → Bool
runs map part = is_not_empty (owners_at map part)
