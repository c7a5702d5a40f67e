-- Where a key lies: its hash, its partition among those of all caches, and the holders of that partition.
use Rattle.std.specs.Prelude.{ℕ, ◌+◌, ◌-◌, ◌*◌, ◌%◌, ◌^◌, ◌==◌, min, List, [], ◌∷◌, ◌++◌, take, slice_get, unwrap_or, Option, Some, None, if◌then◌else◌}
use Rattle.std.specs.Option.{option_and_then}
use Rattle.ignite_types.specs.declared.names.NodeId.{NodeId}
use Rattle.ignite_types.specs.declared.text.Key.{Key}
use Rattle.ignite_types.specs.declared.placement.Row.{Row}
use Rattle.ignite_types.specs.declared.placement.PartMap.{PartMap}

abbrev pub hash_from : ℕ → List ℕ → ℕ
hash_from h [] = h
hash_from h (b ∷ bs) = hash_from ((h * 31 + b) % 2 ^ 32) bs

-- the hash of a key's bytes
abbrev pub key_hash : List ℕ → ℕ
key_hash bytes = hash_from 0 bytes

-- a sum that stands still at the end of 32 bits
abbrev pub capped : ℕ → ℕ → ℕ
capped a b = min (a + b) (2 ^ 32 - 1)

abbrev pub capped_sum : ℕ → List ℕ → ℕ
capped_sum so_far [] = so_far
capped_sum so_far (n ∷ ns) = capped_sum (capped so_far n) ns

-- the first partition of a cache: the partitions of all caches before it
abbrev pub first_part : List ℕ → ℕ → ℕ
first_part parts cache = capped_sum 0 (take cache parts)

-- how many partitions a cache has; 0 where there is no such cache
abbrev pub parts_at : List ℕ → ℕ → ℕ
parts_at parts cache = unwrap_or (slice_get parts cache) 0

-- the place of a hash among so many partitions
abbrev pub place_of_hash : ℕ → ℕ → ℕ
place_of_hash hash parts = if parts == 0 then 0 else hash % parts

-- the key's partition, `parts` being the number of partitions of each cache
abbrev pub part_of : List ℕ → Key → ℕ
part_of parts key = capped (first_part parts key.cache) (place_of_hash (key_hash key.text) (parts_at parts key.cache))

abbrev pub row_of : PartMap → Key → Option Row
row_of map key = slice_get map.rows (part_of map.parts key)

abbrev pub holders : Row → List NodeId
holders row = row.owners ++ row.movers

abbrev pub first_owner : Row → Option NodeId
first_owner row = slice_get row.owners 0

-- the primary of the key's partition, where its cache runs
abbrev pub primary_of : PartMap → Key → Option NodeId
primary_of map key = option_and_then first_owner (row_of map key)
