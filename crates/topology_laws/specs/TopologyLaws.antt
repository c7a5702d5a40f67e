-- The laws of topology, as statements of a journal.
use Rattle.std.specs.List.{list_all}
use Rattle.std.specs.Prelude.{Bool, None, Option, Some, false, true, ◌≤◌}
use Rattle.ignite_types.specs.declared.journal.Journal.{Journal}
use Rattle.ignite_types.specs.declared.journal.Rec.{Rec}
use Rattle.ignite_types.specs.declared.list.List.{List}
use Rattle.ignite_types.specs.declared.names.TopVer.{TopVer}
use Rattle.ignite_types.specs.declared.placement.PartMap.{PartMap}
use Rattle.ignite_types.specs.declared.scenario.Scenario.{Scenario}
use Rattle.journal_statements.specs.Noted.{Noted, each_record, map_of_version, maps_installed, noted}
use Rattle.journal_statements.specs.SameMessages.{same_map}
use Rattle.journal_statements.specs.Topologies.{Topology, topologies, topology_of}
use Rattle.topology_laws.specs.TopologyFacts.{is_lost_or_has_installed, openings_by}
use Rattle.ignite_types.specs.declared.names.NodeId.{NodeId}
use Rattle.ignite_types.specs.declared.journal.Rec.TheVariants as note

abbrev pub is_same_or_first : PartMap → Option PartMap → Bool
is_same_or_first m None = true
is_same_or_first m (Some there) = same_map m there

-- a map that is installed is the one that its version has, if it has one yet
abbrev pub installs_one_map : Scenario → List Noted → Rec → Bool
installs_one_map s before (note.Install m) = is_same_or_first m (map_of_version (maps_installed s before) m.top)
installs_one_map s before r = true

-- all records of maps of one version have one map
abbrev pub one_map : Journal → Bool
one_map j =
    each_record (λ (before : List Noted) (n : Noted). installs_one_map j.scenario before n.rec) (noted j.scenario j.groups)

-- each member of the version is lost, or has installed a map of it
abbrev pub all_have_map : List Noted → TopVer → Option Topology → Bool
all_have_map before top None = false
all_have_map before top (Some t) = list_all (is_lost_or_has_installed before top) t.members

abbrev pub is_opened_after_all : List Topology → List Noted → Rec → Bool
is_opened_after_all ts before (note.Opened top) = all_have_map before top (topology_of ts top)
is_opened_after_all ts before r = true

-- where a version is opened, each of its members is lost or has installed its map
abbrev pub opens_after_all : Journal → Bool
opens_after_all j = let ts = topologies j in
    each_record (λ (before : List Noted) (n : Noted). is_opened_after_all ts before n.rec) (noted j.scenario j.groups)

-- no node opens a version twice
abbrev pub OpensOnce : Journal → Type 0
OpensOnce j = (node : NodeId) (top : TopVer) → openings_by top node (noted j.scenario j.groups) ≤ 1
