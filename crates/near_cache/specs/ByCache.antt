-- The near caches of a node, by the number of their cache; where nothing was put in yet there are no entries.
use Rattle.std.specs.Ordering.{nat_cmp}
use Rattle.std.specs.Prelude.{List, None, Option, Some, [], map, unwrap_or, ℕ}
use Rattle.part_model.specs.NearEntries.{NearCache}
use Rattle.ignite_types.specs.declared.text.Key.{Key}
use Rattle.ordered_table.specs.Entries.{at, put}
use Rattle.near_cache.specs.Sized.{SizedNear}

abbrev pub NearCaches : Type 0
NearCaches = List (ℕ × NearCache)

abbrev pub entries_in : Option SizedNear → NearCache
entries_in None = []
entries_in (Some near) = near.entries

abbrev pub entries_by_cache : List (ℕ × Option SizedNear) → NearCaches
entries_by_cache caches = map (λ (e : ℕ × Option SizedNear). (e.0, entries_in e.1)) caches

-- the near cache of a key's cache
abbrev pub near_at : NearCaches → Key → NearCache
near_at caches key = unwrap_or (at nat_cmp caches key.cache) []

abbrev pub with_near_at : NearCaches → Key → NearCache → NearCaches
with_near_at caches key near = put nat_cmp caches key.cache near
