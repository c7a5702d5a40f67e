-- A partition's copy: what it has at a key, what a write does to it, and how a mover's copy is filled in batches.
use Rattle.std.specs.Option.{option_and_then, option_map}
use Rattle.std.specs.Prelude.{Bool, None, Option, Some, [], false, filter, if◌then◌else◌, is_none, is_some, length, map, nat_le, slice_get, take, true, unwrap_or, ℕ, ◌&&◌, ◌∷◌}
use Rattle.part_model.specs.Orders.{is_less, is_lower}
use Rattle.part_model.specs.Tables.{keys_where, without_each}
use Rattle.part_model.specs.declared.copies.Entry.{Entry}
use Rattle.ignite_types.specs.Names.{key_cmp}
use Rattle.ignite_types.specs.declared.limits.TheConstants.{BATCH_ENTRIES}
use Rattle.ignite_types.specs.declared.list.List.{List}
use Rattle.ignite_types.specs.declared.message.Stored.{Stored}
use Rattle.ignite_types.specs.declared.names.CacheVersion.{CacheVersion}
use Rattle.ignite_types.specs.declared.text.Key.{Key}
use Rattle.ordered_table.specs.Entries.{at, put, without}

-- a copy, as the list of its entries by key
abbrev pub Copy : Type 0
Copy = List (Key × Entry)

-- a value with its version, or nothing
abbrev pub Found : Type 0
Found = Option (List ℕ × CacheVersion)

-- the version of an absent entry
abbrev pub absent_version : CacheVersion
absent_version = record { top = record { major = 0; minor = 0 }; order = 0; node = record { 0 = 0 } }

-- the value with its version, where the entry is no tombstone
abbrev pub found_of_entry : Entry → Found
found_of_entry entry = option_map (λ (value : List ℕ). (value, entry.ver)) entry.value

abbrev pub found_in : Copy → Key → Found
found_in copy key = option_and_then found_of_entry (at key_cmp copy key)

-- what a write leaves of its key: a value; of a removal a tombstone while the copy is filled, else nothing
abbrev pub with_kept : Copy → Stored → Bool → Option (List ℕ) → Copy
with_kept copy write filling (Some value) = put key_cmp copy write.key (record { value = Some value; ver = write.ver })
with_kept copy write true None = put key_cmp copy write.key (record { value = None; ver = write.ver })
with_kept copy write false None = without key_cmp copy write.key

-- a write replaces an entry whose version is not higher
abbrev pub with_kept_over : Copy → Stored → Bool → Option Entry → Copy
with_kept_over copy write filling None = with_kept copy write filling write.value
with_kept_over copy write filling (Some entry) =
    if is_lower write.ver entry.ver then copy else with_kept copy write filling write.value

abbrev pub copy_after_write : Copy → Stored → Bool → Copy
copy_after_write copy write filling = with_kept_over copy write filling (at key_cmp copy write.key)

-- Filling.

abbrev pub stored_entry : Key × Entry → Stored
stored_entry e = record { key = e.0; value = e.1.value; ver = e.1.ver }

-- all values and tombstones, by key
abbrev pub entries_of : Copy → List Stored
entries_of copy = map stored_entry copy

abbrev pub is_after : Option Key → Key → Bool
is_after None key = true
is_after (Some after) key = is_less (key_cmp after key)

-- the values after a key, or all, by key
abbrev pub values_after : Copy → Option Key → List Stored
values_after copy after = filter (λ (e : Stored). is_some e.value && is_after after e.key) (entries_of copy)

-- how many entries a batch has at most
abbrev pub batch_size : ℕ
batch_size = BATCH_ENTRIES

-- the next values after a key, at most so many
abbrev pub batch_of : Copy → Option Key → ℕ → List Stored
batch_of copy after most = take most (values_after copy after)

-- no value stands after that batch
abbrev pub is_last_batch : Copy → Option Key → ℕ → Bool
is_last_batch copy after most = nat_le (length (values_after copy after)) most

-- a supplied entry is kept where its version is higher than that of what is there
abbrev pub with_supplied_over : Copy → Stored → Option Entry → Copy
with_supplied_over copy entry None = put key_cmp copy entry.key (record { value = entry.value; ver = entry.ver })
with_supplied_over copy entry (Some there) = if is_lower there.ver entry.ver
    then put key_cmp copy entry.key (record { value = entry.value; ver = entry.ver })
    else copy

abbrev pub copy_after_supply : Copy → List Stored → Copy
copy_after_supply copy [] = copy
copy_after_supply copy (entry ∷ entries) =
    copy_after_supply (with_supplied_over copy entry (at key_cmp copy entry.key)) entries

abbrev pub is_tombstone : Key × Entry → Bool
is_tombstone e = is_none e.1.value

-- a filled copy needs no tombstones
abbrev pub without_tombstones : Copy → Copy
without_tombstones copy = without_each key_cmp copy (keys_where is_tombstone copy)

-- the copy of a partition among those of all
abbrev pub copy_at : List Copy → ℕ → Copy
copy_at copies part = unwrap_or (slice_get copies part) []
