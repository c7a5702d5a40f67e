-- The laws of maps, as statements of a journal.
use Rattle.std.specs.List.{list_all}
use Rattle.std.specs.Prelude.{Bool, None, Option, Some, false, not, true, ◌&&◌, ◌||◌}
use Rattle.part_model.specs.Directory.{first_top, oldest_member}
use Rattle.part_model.specs.NextMap.{is_higher, is_member, newest_map_from}
use Rattle.part_model.specs.Orders.{is_lower_top, is_node}
use Rattle.ignite_types.specs.declared.journal.Journal.{Journal}
use Rattle.ignite_types.specs.declared.journal.Rec.{Rec}
use Rattle.ignite_types.specs.declared.list.List.{List}
use Rattle.ignite_types.specs.declared.names.NodeId.{NodeId}
use Rattle.ignite_types.specs.declared.placement.PartMap.{PartMap}
use Rattle.ignite_types.specs.declared.scenario.Member.{Member}
use Rattle.ignite_types.specs.declared.scenario.Scenario.{Scenario}
use Rattle.journal_statements.specs.Maps.{is_map_from, singles_at}
use Rattle.journal_statements.specs.Noted.{Noted, each_record, is_lost, map_of_version, maps_installed, noted}
use Rattle.journal_statements.specs.SameMessages.{same_map}
use Rattle.journal_statements.specs.Topologies.{Topology, topologies, topology_of}
use Rattle.ignite_types.specs.declared.journal.Rec.TheVariants as note

-- Maps are next maps.

abbrev pub is_next_of : Scenario → List Noted → PartMap → Option Topology → Bool
is_next_of s before m None = false
is_next_of s before m (Some t) = is_map_from s before t m (oldest_member t.members)

abbrev pub is_known_or_next : Scenario → List Topology → List Noted → PartMap → Option PartMap → Bool
is_known_or_next s ts before m None = is_next_of s before m (topology_of ts m.top)
is_known_or_next s ts before m (Some there) = same_map m there

abbrev pub installs_next_map : Scenario → List Topology → List Noted → Rec → Bool
installs_next_map s ts before (note.Install m) =
    is_known_or_next s ts before m (map_of_version (maps_installed s before) m.top)
installs_next_map s ts before r = true

-- a map that is installed is the one that its version has, or it is the next map that the version's oldest member makes of the
-- Singles that it was brought, one from each member
abbrev pub next_maps : Journal → Bool
next_maps j = let ts = topologies j in
    each_record (λ (before : List Noted) (n : Noted). installs_next_map j.scenario ts before n.rec) (noted j.scenario j.groups)

-- The base of a next map is the highest map.

abbrev pub is_up_to_base : Option PartMap → PartMap → Bool
is_up_to_base None m = false
is_up_to_base (Some base) m = not (is_higher m.top base.top)

-- the map that is installed in this record is no higher, or its node is lost
abbrev pub is_record_up_to : List Noted → Option PartMap → Option NodeId → Rec → Bool
is_record_up_to before base (Some node) (note.Install m) = is_lost before node || is_up_to_base base m
is_record_up_to before base who r = true

abbrev pub is_first_up_to : List Noted → Option PartMap → Member → Bool
is_first_up_to before None m = is_lost before m.node
is_first_up_to before (Some base) m = is_lost before m.node || not (is_higher first_top base.top)

-- no map that was installed at a node that is not lost is higher
abbrev pub is_highest_base : Scenario → List Noted → Option PartMap → Bool
is_highest_base s before base = list_all (λ (n : Noted). is_record_up_to before base n.node n.rec) before
    && list_all (is_first_up_to before base) s.nodes

abbrev pub has_highest_base_by : Scenario → List Noted → PartMap → Option NodeId → Bool
has_highest_base_by s before m None = false
has_highest_base_by s before m (Some oldest) =
    is_highest_base s before (newest_map_from None (singles_at before oldest m.top))

abbrev pub has_highest_base_of : Scenario → List Noted → PartMap → Option Topology → Bool
has_highest_base_of s before m None = false
has_highest_base_of s before m (Some t) = has_highest_base_by s before m (oldest_member t.members)

abbrev pub is_known_or_on_highest : Scenario → List Topology → List Noted → PartMap → Option PartMap → Bool
is_known_or_on_highest s ts before m None = has_highest_base_of s before m (topology_of ts m.top)
is_known_or_on_highest s ts before m (Some there) = true

abbrev pub installs_on_highest : Scenario → List Topology → List Noted → Rec → Bool
installs_on_highest s ts before (note.Install m) =
    is_known_or_on_highest s ts before m (map_of_version (maps_installed s before) m.top)
installs_on_highest s ts before r = true

-- the first map of a version is made of Singles whose highest map is no lower than any that a node which is not lost has
-- installed
abbrev pub highest_bases : Journal → Bool
highest_bases j = let ts = topologies j in
    each_record (λ (before : List Noted) (n : Noted). installs_on_highest j.scenario ts before n.rec)
    (noted j.scenario j.groups)

-- Maps rise.

abbrev pub is_lower_at : NodeId → PartMap → Option NodeId → Rec → Bool
is_lower_at node m who (note.Install x) = not (is_node node who) || is_lower_top x.top m.top
is_lower_at node m who r = true

abbrev pub is_above_earlier : Scenario → List Noted → PartMap → Option NodeId → Bool
is_above_earlier s before m None = true
is_above_earlier s before m (Some node) = list_all (λ (n : Noted). is_lower_at node m n.node n.rec) before
    && (not (is_member s.nodes node) || is_lower_top first_top m.top)

abbrev pub installs_above : Scenario → List Noted → Option NodeId → Rec → Bool
installs_above s before who (note.Install m) = is_above_earlier s before m who
installs_above s before who r = true

-- each map that a node installs has a higher version than those that it installed before, and, at an initial node, than the
-- first
abbrev pub rising_maps : Journal → Bool
rising_maps j =
    each_record (λ (before : List Noted) (n : Noted). installs_above j.scenario before n.node n.rec) (noted j.scenario j.groups)
