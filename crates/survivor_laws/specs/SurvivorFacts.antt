-- What is known of owners that are not lost, by the records so far.
use Rattle.std.specs.List.{list_all, list_any}
use Rattle.std.specs.Prelude.{Bool, None, Option, Some, [], false, length, not, true, ℕ, ◌++◌, ◌||◌, ◌∷◌, ◌≡◌, ◌≤◌, ◌⊎◌}
use Rattle.part_model.specs.NextMap.{is_member, newest_map_from}
use Rattle.ignite_types.specs.Names.{same_top}
use Rattle.ignite_types.specs.declared.journal.Rec.{Rec}
use Rattle.ignite_types.specs.declared.journal.TopoEvent.{TopoEvent}
use Rattle.ignite_types.specs.declared.list.List.{List}
use Rattle.ignite_types.specs.declared.names.NodeId.{NodeId}
use Rattle.ignite_types.specs.declared.names.TopVer.{TopVer}
use Rattle.ignite_types.specs.declared.placement.PartMap.{PartMap}
use Rattle.ignite_types.specs.declared.placement.Row.{Row}
use Rattle.ignite_types.specs.declared.scenario.Member.{Member}
use Rattle.ignite_types.specs.declared.scenario.Scenario.{Scenario}
use Rattle.journal_statements.specs.MapLaws.{rows_have_live_owners}
use Rattle.journal_statements.specs.Maps.{has_owner, singles_at}
use Rattle.journal_statements.specs.Noted.{Noted, is_lost, map_of_version, maps_installed}
use Rattle.journal_statements.specs.Refusals.{maps_at}
use Rattle.map_laws.specs.MapFacts.{IsKnownMap, next_map_at, topology_after_events}
use Rattle.topology_laws.specs.TopologyFacts.{HoldsOfEach, IsUpTo}
use Rattle.ignite_types.specs.declared.journal.Rec.TheVariants as note

-- the node had installed a map of this version
abbrev pub is_noted_map : Scenario → List Noted → NodeId → TopVer → Bool
is_noted_map s recs node top = list_any (λ (m : PartMap). same_top m.top top) (maps_at s recs node)

abbrev pub IsNotedAt : Scenario → List Noted → NodeId → Option PartMap → Type 0
IsNotedAt s recs node None = Unit {0}
IsNotedAt s recs node (Some m) = is_noted_map s recs node m.top ≡ true

-- the highest map that a node which is not lost had installed, such a node, and a version that it was a member of; in the map
-- each
-- partition that has owners has one that is not lost
pub record HasLiveOwners (s : Scenario) (events : List TopoEvent) (recs : List Noted) : Type 0 where
  pub map : PartMap
  pub is_map : map_of_version (maps_installed s recs) map.top ≡ Some map
  pub at : NodeId
  pub lives : is_lost recs at ≡ false
  pub place : ℕ
  pub within : place ≤ length events
  pub member : is_member (topology_after_events s events place).members at ≡ true
  pub has_it : is_noted_map s recs at map.top ≡ true
  pub is_highest : (node : NodeId) → is_lost recs node ≡ false
      → HoldsOfEach (λ (m : PartMap). IsUpTo m.top map.top) (maps_at s recs node)
  pub owned : rows_have_live_owners recs (Some map) ≡ true

-- a partition that has owners has one among these members
abbrev pub keeps_one : List Member → Row → Bool
keeps_one members row = not (has_owner row) || list_any (is_member members) row.owners

-- a map is the next map of its version over the map that is the highest one of these Singles; that one is installed, and each
-- of
-- its partitions that has owners has one among the members of the version
pub record IsOnOwnedBase (s : Scenario) (events : List TopoEvent) (before : List Noted) (m : PartMap) : Type 0 where
  pub place : ℕ
  pub within : place ≤ length events
  pub is_top : (topology_after_events s events place).top ≡ m.top
  pub by : NodeId
  pub is_next : m ≡ next_map_at s (topology_after_events s events place) m.top (singles_at before by m.top)
  pub base : PartMap
  pub is_base : newest_map_from None (singles_at before by m.top) ≡ Some base
  pub base_known : map_of_version (maps_installed s before) base.top ≡ Some base
  pub keeps : list_all (keeps_one (topology_after_events s events place).members) base.rows ≡ true

-- where a map is installed or a node is lost, the highest map has live owners with this record
abbrev pub SurvivorsFit : Scenario → List TopoEvent → List Noted → Noted → Rec → Type 0
SurvivorsFit s events before n (note.Install m) =
    HasLiveOwners s events (before ++ n ∷ []) × (IsKnownMap s before m ⊎ IsOnOwnedBase s events before m)
SurvivorsFit s events before n (note.Lost node) = HasLiveOwners s events (before ++ n ∷ [])
SurvivorsFit s events before n _ = Unit {0}

abbrev pub NotedSurvivorsFit : Scenario → List TopoEvent → List Noted → List Noted → Type 0
NotedSurvivorsFit s events before [] = Unit {0}
NotedSurvivorsFit s events before (n ∷ ns) =
    SurvivorsFit s events before n n.rec × NotedSurvivorsFit s events (before ++ n ∷ []) ns
