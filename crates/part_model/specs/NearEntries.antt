-- A near cache, most recent entry first, and the readers of a primary's keys.
use Rattle.std.specs.List.{find}
use Rattle.std.specs.Prelude.{Bool, None, Option, Some, [], filter, if◌then◌else◌, map, not, take, unwrap_or, ℕ, ◌&&◌, ◌∷◌}
use Rattle.part_model.specs.Orders.{is_lower}
use Rattle.part_model.specs.Tables.{keys_in}
use Rattle.part_model.specs.declared.near.NearEntry.{NearEntry}
use Rattle.ignite_types.specs.Names.{key_cmp, node_cmp, same_key}
use Rattle.ignite_types.specs.declared.list.List.{List}
use Rattle.ignite_types.specs.declared.names.CacheVersion.{CacheVersion}
use Rattle.ignite_types.specs.declared.names.NodeId.{NodeId}
use Rattle.ignite_types.specs.declared.text.Key.{Key}
use Rattle.ordered_set.specs.Members.{with_member, without_member}
use Rattle.ordered_table.specs.Entries.{at, put}

abbrev pub NearCache : Type 0
NearCache = List NearEntry

abbrev pub near_entry : NearCache → Key → Option NearEntry
near_entry near key = find (λ (e : NearEntry). same_key e.key key) near

abbrev pub others_of_key : NearCache → NearEntry → NearCache
others_of_key near entry = filter (λ (e : NearEntry). not (same_key e.key entry.key)) near

-- the entry comes to the front, in place of one of its key
abbrev pub near_front : NearCache → NearEntry → NearCache
near_front near entry = entry ∷ others_of_key near entry

-- an entry is put in front; past the size the last one is dropped
abbrev pub near_put : ℕ → NearCache → NearEntry → NearCache
near_put size near entry = take size (near_front near entry)

-- the update speaks of this entry, and is newer
abbrev pub is_updated : Key → CacheVersion → NearEntry → Bool
is_updated key ver entry = same_key entry.key key && is_lower entry.ver ver

abbrev pub others_than : NearCache → Key → CacheVersion → NearCache
others_than near key ver = filter (λ (e : NearEntry). not (is_updated key ver e)) near

abbrev pub near_renewed : NearCache → Key → List ℕ → CacheVersion → NearCache
near_renewed near key value ver =
    map (λ (e : NearEntry). if is_updated key ver e then record { key = key; value = value; ver = ver } else e) near

-- an update changes an older entry at its place, and a removal takes it out
abbrev pub near_updated : NearCache → Key → Option (List ℕ) → CacheVersion → NearCache
near_updated near key None ver = others_than near key ver
near_updated near key (Some value) ver = near_renewed near key value ver

-- Readers: for each key the nodes to which updates go, ascending.

abbrev pub Readers : Type 0
Readers = List (Key × List NodeId)

abbrev pub readers_of : Readers → Key → List NodeId
readers_of readers key = unwrap_or (at key_cmp readers key) []

abbrev pub with_reader : Readers → Key → NodeId → Readers
with_reader readers key node = put key_cmp readers key (with_member node_cmp (readers_of readers key) node)

abbrev pub without_reader_of : Readers → Key → NodeId → Readers
without_reader_of readers key node = put key_cmp readers key (without_member node_cmp (readers_of readers key) node)

abbrev pub without_reader_of_each : Readers → List Key → NodeId → Readers
without_reader_of_each readers [] node = readers
without_reader_of_each readers (key ∷ keys) node = without_reader_of_each (without_reader_of readers key node) keys node

-- a node that was lost is no reader of any key
abbrev pub without_reader : Readers → NodeId → Readers
without_reader readers node = without_reader_of_each readers (keys_in readers) node
