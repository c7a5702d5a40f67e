-- Tables of claims, in which each claim is found at once.
use Rattle.std.specs.Prelude.{◌≡◌, ℕ, ◌<◌, ◌==◌, Bool, false, List, [], length, slice_get, Option}
use Rattle.std.specs.List.{list_any, slice_index_or}
use Rattle.ignite_types.specs.declared.message.Single.{Single}
use Rattle.ignite_types.specs.declared.names.TopVer.{TopVer}
use Rattle.part_model.specs.NextMap.{is_claimed}

-- of so many partitions, just those that are listed are marked
pub record AreListed (parts : ℕ) (complete : List ℕ) (marks : List Bool) : Type 0 where
  pub each : (part : ℕ) → part < parts → slice_index_or marks part false ≡ list_any (λ p. p == part) complete

-- of so many partitions, just those that the single claims under this version are marked
pub record AreClaimed (version : TopVer) (parts : ℕ) (single : Option Single) (marks : List Bool) : Type 0 where
  pub each : (part : ℕ) → part < parts → slice_index_or marks part false ≡ is_claimed version part single

-- for each single, its claims are marked
pub record IsTable (version : TopVer) (parts : ℕ) (singles : List Single) (table : List (List Bool)) : Type 0 where
  pub whole : length table ≡ length singles
  pub each : (place part : ℕ) → place < length singles → part < parts →
      slice_index_or (slice_index_or table place []) part false ≡ is_claimed version part (slice_get singles place)
