-- The next map: what an exchange makes of the maps and the claims that the nodes' singles carry. Every look-up that finds
-- nothing counts as nothing: a node without a single claims nothing, and a partition that the base lacks has no holders there.
use Rattle.std.specs.List.{find, list_any}
use Rattle.std.specs.Prelude.{Bool, None, Option, Some, [], drop, false, filter, if◌then◌else◌, map, nat_lt, not, unwrap_or, ℕ, ◌&&◌, ◌++◌, ◌+◌, ◌==◌, ◌||◌, ◌∷◌}
use Rattle.ignite_types.specs.Affinity.{ideal, opening_rows}
use Rattle.ignite_types.specs.Good.{members}
use Rattle.ignite_types.specs.Names.{same_node, same_top}
use Rattle.ignite_types.specs.Placement.{holders}
use Rattle.ignite_types.specs.declared.list.List.{List}
use Rattle.ignite_types.specs.declared.message.Single.{Single}
use Rattle.ignite_types.specs.declared.names.NodeId.{NodeId}
use Rattle.ignite_types.specs.declared.names.TopVer.{TopVer}
use Rattle.ignite_types.specs.declared.placement.PartMap.{PartMap}
use Rattle.ignite_types.specs.declared.placement.Row.{Row}
use Rattle.ignite_types.specs.declared.scenario.Cache.{Cache}
use Rattle.ignite_types.specs.declared.scenario.Member.{Member}

-- whether the first version is the higher one
abbrev pub is_higher : TopVer → TopVer → Bool
is_higher a b = nat_lt b.major a.major || ((a.major == b.major) && nat_lt b.minor a.minor)

-- the map of higher version; of two of one version the first
abbrev pub newer_map : Option PartMap → Option PartMap → Option PartMap
newer_map None next = next
newer_map (Some best) None = Some best
newer_map (Some best) (Some next) = if is_higher next.top best.top then Some next else Some best

abbrev pub newest_map_from : Option PartMap → List Single → Option PartMap
newest_map_from best [] = best
newest_map_from best (single ∷ more) = newest_map_from (newer_map best single.map) more

-- the map of no partitions
abbrev pub no_map : PartMap
no_map = record { top = record { major = 0; minor = 0 }; parts = []; rows = [] }

-- The base: the map of highest version among the singles. Where none has a map it has no partitions.
abbrev pub base_map : List Single → PartMap
base_map singles = unwrap_or (newest_map_from None singles) no_map

abbrev pub has_node : List NodeId → NodeId → Bool
has_node nodes node = list_any (same_node node) nodes

abbrev pub is_member : List Member → NodeId → Bool
is_member members node = list_any (λ member. same_node node member.node) members

-- the server members, in order
abbrev pub servers : List Member → List NodeId
servers members = map (λ (member : Member). member.node) (filter (λ member. member.server) members)

-- the node's single, where there is one
abbrev pub single_of : List Single → NodeId → Option Single
single_of singles node = find (λ single. same_node node single.from) singles

-- whether a single was sent under the map of this version
abbrev pub is_under : TopVer → Option PartMap → Bool
is_under version (Some m) = same_top version m.top
is_under version None = false

-- whether a single has the base's version and lists the partition as complete; a claim under an older map counts for nothing
abbrev pub is_claimed : TopVer → ℕ → Option Single → Bool
is_claimed version part (Some single) = is_under version single.map && list_any (λ p. p == part) single.complete
is_claimed version part None = false

-- whether a mover of the base holds a complete copy: it is a member, and its single claims so
abbrev pub is_filled : List Member → List Single → TopVer → ℕ → NodeId → Bool
is_filled members singles version part node =
    is_member members node && is_claimed version part (single_of singles node)

-- the holders of a partition: the base's owners that are members, and then its movers whose copies are complete
abbrev pub map_holders : List Member → List Single → TopVer → ℕ → Row → List NodeId
map_holders members singles version part row =
    filter (is_member members) row.owners ++ filter (is_filled members singles version part) row.movers

-- the wanted nodes that are no holders, in order
abbrev pub nodes_missing : List NodeId → List NodeId → List NodeId
nodes_missing wanted holders = filter (λ node. not (has_node holders node)) wanted

-- the row of a partition with these holders: the wanted nodes own it where each of them is a holder; else the holders own it,
-- and
-- the missing nodes are filled
abbrev pub row_of_missing : List NodeId → List NodeId → List NodeId → Row
row_of_missing wanted holders [] = record { owners = wanted; movers = [] }
row_of_missing wanted holders movers = record { owners = holders; movers = movers }

abbrev pub row_of_holders : List NodeId → List NodeId → Row
row_of_holders wanted holders = row_of_missing wanted holders (nodes_missing wanted holders)

-- the row of a partition whose cache is one of the version, by the owners that it has in the base: where there is none, the
-- wanted nodes own it
abbrev pub running_row : List Member → List Single → TopVer → ℕ → List NodeId → Row → List NodeId → Row
running_row members singles version part wanted row [] = record { owners = wanted; movers = [] }
running_row members singles version part wanted row _ = row_of_holders wanted (map_holders members singles version part row)

-- The row of a partition by the nodes that it wants and by its row in the base. No node is wanted where its cache is not one
-- of the
-- version; then it has no holders.
abbrev pub next_row : List Member → List Single → TopVer → ℕ → List NodeId → Row → Row
next_row members singles version part [] row = record { owners = []; movers = [] }
next_row members singles version part wanted row = running_row members singles version part wanted row row.owners

-- a partition that the base lacks has no holders there
abbrev pub row_or_bare : Option Row → Row
row_or_bare None = record { owners = []; movers = [] }
row_or_bare (Some row) = row

-- the first of the base's rows that are left
abbrev pub first_row : List Row → Row
first_row [] = record { owners = []; movers = [] }
first_row (row ∷ rows) = row

-- the rows from a partition on, by the ideal rows of the version and the base's rows from there on
abbrev pub next_rows : List Member → List Single → TopVer → ℕ → List Row → List Row → List Row
next_rows members singles version part [] rows = []
next_rows members singles version part (ideal ∷ more) rows =
    next_row members singles version part ideal.owners (first_row rows)
    ∷ next_rows members singles version (part + 1) more (drop 1 rows)

-- The ideal rows are those of an opening map over the server members: the wanted nodes of each partition of the caches of the
-- version, and none for the others.
abbrev pub map_over_base : TopVer → List Member → List Cache → List ℕ → List Single → PartMap → PartMap
map_over_base top members caches running singles before =
    record {
      top = top;
      parts = map (λ (cache : Cache). cache.parts) caches;
      rows = next_rows members singles before.top 0 (opening_rows (servers members) running 0 caches) before.rows;
    }

-- the map of a version from the singles of its members, `running` being the caches of the version
abbrev pub next_map : TopVer → List Member → List Cache → List ℕ → List Single → PartMap
next_map top members caches running singles = map_over_base top members caches running singles (base_map singles)
