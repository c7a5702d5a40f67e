-- A near cache with its size, and what a hit answers and does.
use Rattle.std.specs.Prelude.{Option, List, ℕ, option_map}
use Rattle.std.specs.Option.{option_map_or}
use Rattle.part_model.specs.NearEntries.{NearCache, near_entry, near_front}
use Rattle.part_model.specs.declared.near.NearEntry.{NearEntry}
use Rattle.ignite_types.specs.declared.names.CacheVersion.{CacheVersion}
use Rattle.ignite_types.specs.declared.text.Key.{Key}

pub record SizedNear : Type 0 where
  pub size : ℕ
  pub entries : NearCache

abbrev pub hit : NearCache → Key → Option (List ℕ × CacheVersion)
hit near key = option_map (λ (e : NearEntry). (e.value, e.ver)) (near_entry near key)

-- the entry that was hit comes to the front
abbrev pub after_hit : NearCache → Key → NearCache
after_hit near key = option_map_or (near_front near) (near_entry near key) near
