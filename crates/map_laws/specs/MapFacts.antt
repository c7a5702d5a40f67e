-- What the laws of maps know of one node, and of one record of a map.
use Rattle.std.specs.Prelude.{None, Option, Some, [], filter, flat_map, length, take, true, false, ℕ, ◌++◌, ◌≡◌, ◌≤◌, ◌⊎◌, ◌∷◌}
use Rattle.act_rows.specs.Exchange.{all_sent}
use Rattle.part_model.specs.Directory.{first_top, oldest_member}
use Rattle.part_model.specs.NextMap.{is_member, newest_map_from, next_map}
use Rattle.ignite_types.specs.Names.{same_top}
use Rattle.ignite_types.specs.declared.journal.Rec.{Rec}
use Rattle.ignite_types.specs.declared.journal.TopoEvent.{TopoEvent}
use Rattle.ignite_types.specs.declared.list.List.{List}
use Rattle.ignite_types.specs.declared.message.Single.{Single}
use Rattle.ignite_types.specs.declared.names.NodeId.{NodeId}
use Rattle.ignite_types.specs.declared.names.TopVer.{TopVer}
use Rattle.ignite_types.specs.declared.placement.PartMap.{PartMap}
use Rattle.ignite_types.specs.declared.scenario.Cache.{Cache}
use Rattle.ignite_types.specs.declared.scenario.Scenario.{Scenario}
use Rattle.journal_statements.specs.Maps.{singles_at}
use Rattle.journal_statements.specs.Noted.{Noted, is_lost, map_in, map_of_version, maps_installed, recs_of}
use Rattle.journal_statements.specs.Topologies.{Topology, first_topology, last_topology}
use Rattle.topology_laws.specs.TopologyFacts.{HasAtLeast, HoldsOfEach, IsBelow}
use Rattle.ignite_types.specs.declared.journal.Rec.TheVariants as note

-- the topology after so many events
abbrev pub topology_after_events : Scenario → List TopoEvent → ℕ → Topology
topology_after_events s events k = last_topology (first_topology s) (take k events)

-- the version is above the map's
abbrev pub IsAbove : TopVer → Option PartMap → Type 0
IsAbove top None = Unit {0}
IsAbove top (Some m) = IsBelow m.top top

abbrev pub singles_of_version : TopVer → List Single → List Single
singles_of_version top singles = filter (λ (x : Single). same_top x.top top) singles

-- the maps that a node has installed
abbrev pub maps_by : NodeId → List Noted → List PartMap
maps_by node recs = flat_map map_in (recs_of node recs)

-- a node that is not lost, by what it keeps of the exchange
pub record NodeMaps (s : Scenario) (recs : List Noted) (node : NodeId)
    (caches : List Cache) (installed : Option PartMap) (singles : List Single) : Type 0 where
  -- it knows the caches of the scenario
  pub caches_are : caches ≡ s.caches
  -- of each version above its map it keeps the Singles that it was brought, but for those of lost nodes
  pub singles_are : (top : TopVer) → IsAbove top installed → singles_of_version top singles ≡ singles_at recs node top
  -- its map is the highest one that it installed
  pub has_last : HoldsOfEach (λ (m : PartMap). HasAtLeast m.top installed) (maps_by node recs)
  -- an initial node has a map from the first version on
  pub has_first : is_member s.nodes node ≡ true → HasAtLeast first_top installed

-- no map that this node has installed is above this one
pub record HasNoneAbove (s : Scenario) (before : List Noted) (base : Option PartMap) (node : NodeId) : Type 0 where
  pub of_each : HoldsOfEach (λ (m : PartMap). HasAtLeast m.top base) (maps_by node before)
  pub of_first : is_member s.nodes node ≡ true → HasAtLeast first_top base

abbrev pub next_map_at : Scenario → Topology → TopVer → List Single → PartMap
next_map_at s t top singles = next_map top t.members s.caches t.running singles

-- a map is the next map of its version, from the Singles that the oldest member of the version was brought; these have the
-- highest map among those that nodes which are not lost have installed
pub record IsComputedMap (s : Scenario) (events : List TopoEvent) (before : List Noted) (m : PartMap) : Type 0 where
  pub place : ℕ
  pub within : place ≤ length events
  pub is_top : (topology_after_events s events place).top ≡ m.top
  pub by : NodeId
  pub is_oldest : oldest_member (topology_after_events s events place).members ≡ Some by
  pub sent : all_sent (topology_after_events s events place).members (singles_at before by m.top) ≡ true
  pub is_next : m ≡ next_map_at s (topology_after_events s events place) m.top (singles_at before by m.top)
  pub has_highest : (node : NodeId) → is_lost before node ≡ false
      → HasNoneAbove s before (newest_map_from None (singles_at before by m.top)) node

-- a map has its version already
pub record IsKnownMap (s : Scenario) (before : List Noted) (m : PartMap) : Type 0 where
  pub is_map : map_of_version (maps_installed s before) m.top ≡ Some m

-- a map is above those that its node has installed before
pub record IsAboveEarlier (s : Scenario) (before : List Noted) (m : PartMap) (node : NodeId) : Type 0 where
  pub of_each : HoldsOfEach (λ (x : PartMap). IsBelow x.top m.top) (maps_by node before)
  pub of_first : is_member s.nodes node ≡ true → IsBelow first_top m.top

-- a record of a map, by the node that noted it
pub record InstallFits (s : Scenario) (events : List TopoEvent) (before : List Noted)
    (who : Option NodeId) (m : PartMap) : Type 0 where
  pub known_or_next : IsKnownMap s before m ⊎ IsComputedMap s events before m
  pub rises : (node : NodeId) → who ≡ Some node → IsAboveEarlier s before m node

abbrev pub NotedMapFits : Scenario → List TopoEvent → List Noted → Option NodeId → Rec → Type 0
NotedMapFits s events before who (note.Install m) = InstallFits s events before who m
NotedMapFits s events before who _ = Unit {0}

abbrev pub NotedMapsFit : Scenario → List TopoEvent → List Noted → List Noted → Type 0
NotedMapsFit s events before [] = Unit {0}
NotedMapsFit s events before (n ∷ ns) =
    NotedMapFits s events before n.node n.rec × NotedMapsFit s events (before ++ n ∷ []) ns
