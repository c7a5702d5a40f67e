-- Comparisons as tests, and counters that stand still at the end of their type.
use Rattle.std.specs.Prelude.{Bool, None, Option, Some, false, min, true, ℕ, ◌&&◌, ◌+◌, ◌-◌, ◌^◌}
use Rattle.std.specs.declared.cmp.Ordering.{Ordering}
use Rattle.std.specs.declared.cmp.Ordering.TheVariants.{Less}
use Rattle.ignite_types.specs.Names.{same_node, top_cmp, version_cmp}
use Rattle.ignite_types.specs.declared.names.CacheVersion.{CacheVersion}
use Rattle.ignite_types.specs.declared.names.NodeId.{NodeId}
use Rattle.ignite_types.specs.declared.names.TopVer.{TopVer}
use Rattle.ignite_types.specs.declared.placement.Share.{Share}

abbrev pub is_less : Ordering → Bool
is_less Less = true
is_less _ = false

abbrev pub is_lower : CacheVersion → CacheVersion → Bool
is_lower a b = is_less (version_cmp a b)

abbrev pub is_lower_top : TopVer → TopVer → Bool
is_lower_top a b = is_less (top_cmp a b)

abbrev pub same_share : Share → Share → Bool
same_share a b = same_node a.holder b.holder && same_node a.primary b.primary

abbrev pub is_node : NodeId → Option NodeId → Bool
is_node node None = false
is_node node (Some other) = same_node node other

-- one more; at the end of 64 bits the number stands still
abbrev pub next_count : ℕ → ℕ
next_count n = min (n + 1) (2 ^ 64 - 1)
