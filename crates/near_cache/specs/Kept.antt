-- What is kept at a key, as an entry of the near cache.
use Rattle.std.specs.Prelude.{Bool, List, false, map}
use Rattle.std.specs.Map.{lookup}
use Rattle.std.specs.Option.{option_map_or}
use Rattle.part_model.specs.NearEntries.{NearCache}
use Rattle.part_model.specs.Orders.{is_lower}
use Rattle.part_model.specs.declared.near.NearEntry.{NearEntry}
use Rattle.ignite_types.specs.Names.{same_key}
use Rattle.ignite_types.specs.declared.names.CacheVersion.{CacheVersion}
use Rattle.ignite_types.specs.declared.text.Key.{Key}
use Rattle.near_cache.specs.declared.near.Kept.{Kept}

abbrev pub near_entry_of : Key × Kept → NearEntry
near_entry_of e = record { key = e.0; value = e.1.value; ver = e.1.ver }

abbrev pub near_entries : List (Key × Kept) → NearCache
near_entries es = map near_entry_of es

-- an entry of the key is there, and its version is lower
abbrev pub has_older : List (Key × Kept) → Key → CacheVersion → Bool
has_older es key ver = option_map_or (λ (kept : Kept). is_lower kept.ver ver) (lookup (same_key key) es) false
