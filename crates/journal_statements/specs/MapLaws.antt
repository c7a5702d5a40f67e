-- More of maps and versions than the headline says: who makes them, when they open, and that a live owner is left.
use Rattle.std.specs.List.{flat_map, list_all, list_any}
use Rattle.std.specs.Prelude.{Bool, None, Option, Some, [], false, filter, not, option_to_list, true, ◌&&◌, ◌++◌, ◌||◌, ◌∷◌}
use Rattle.act_rows.specs.Filling.{movers_in}
use Rattle.part_model.specs.Directory.{oldest_member}
use Rattle.part_model.specs.Orders.{is_node}
use Rattle.ignite_types.specs.Names.{same_node, same_top}
use Rattle.ignite_types.specs.declared.journal.Event.{Event}
use Rattle.ignite_types.specs.declared.journal.Group.{Group}
use Rattle.ignite_types.specs.declared.journal.Journal.{Journal}
use Rattle.ignite_types.specs.declared.journal.Rec.{Rec}
use Rattle.ignite_types.specs.declared.list.List.{List}
use Rattle.ignite_types.specs.declared.names.NodeId.{NodeId}
use Rattle.ignite_types.specs.declared.names.TopVer.{TopVer}
use Rattle.ignite_types.specs.declared.placement.PartMap.{PartMap}
use Rattle.ignite_types.specs.declared.placement.Row.{Row}
use Rattle.ignite_types.specs.declared.scenario.Member.{Member}
use Rattle.ignite_types.specs.declared.scenario.Scenario.{Scenario}
use Rattle.journal_statements.specs.Maps.{has_owner}
use Rattle.journal_statements.specs.Noted.{Homes, Noted, each_record, is_lost, map_of_version, maps_installed, noted, noted_in, recs_of}
use Rattle.journal_statements.specs.Refusals.{highest, maps_at}
use Rattle.journal_statements.specs.SameMessages.{same_map}
use Rattle.journal_statements.specs.Topologies.{Topology, topologies, topology_of}
use Rattle.journal_statements.specs.Versions.{opened_before}
use Rattle.tx_model.specs.Opening.{ids_of, session_nodes_from}
use Rattle.ignite_types.specs.declared.journal.Event.TheVariants as event
use Rattle.ignite_types.specs.declared.message.Message.TheVariants as msg
use Rattle.ignite_types.specs.declared.journal.Rec.TheVariants as note

-- One coordinator and one map.

abbrev pub is_oldest_of : Option NodeId → Option Topology → Bool
is_oldest_of who None = false
is_oldest_of who (Some t) = list_any (λ (oldest : NodeId). is_node oldest who) (option_to_list (oldest_member t.members))

abbrev pub is_known_map : PartMap → Option PartMap → Bool
is_known_map m None = false
is_known_map m (Some there) = same_map m there

abbrev pub sent_by_coordinator : Scenario → List Topology → List Noted → Option NodeId → Rec → Bool
sent_by_coordinator scenario ts before who (note.Sent to (msg.Full m)) = is_oldest_of who (topology_of ts m.top)
    && is_known_map m (map_of_version (maps_installed scenario before) m.top)
sent_by_coordinator scenario ts before who (note.Sent to (msg.Opens top)) = is_oldest_of who (topology_of ts top)
sent_by_coordinator scenario ts before who r = true

-- the map of a version is handed out, and its opening is told, by the version's oldest member alone; the map is the installed
-- one
abbrev pub one_coordinator : Journal → Bool
one_coordinator j = let ts = topologies j in
    each_record (λ (before : List Noted) (n : Noted). sent_by_coordinator j.scenario ts before n.node n.rec)
    (noted j.scenario j.groups)

-- Opening.

abbrev pub is_install_of : TopVer → Rec → Bool
is_install_of top (note.Install m) = same_top m.top top
is_install_of top r = false

abbrev pub has_installed : List Noted → TopVer → NodeId → Bool
has_installed before top id = list_any (is_install_of top) (recs_of id before)

abbrev pub members_installed : List Noted → TopVer → Option Topology → Bool
members_installed before top None = false
members_installed before top (Some t) =
    list_all (λ (m : Member). is_lost before m.node || has_installed before top m.node) t.members

abbrev pub opening_fits : List Topology → List Noted → Rec → Bool
opening_fits ts before (note.Opened top) =
    list_any (same_top top) (opened_before before) || members_installed before top (topology_of ts top)
opening_fits ts before r = true

-- when a version is first opened each live member has installed its map
abbrev pub opened_when_installed : Journal → Bool
opened_when_installed j = let ts = topologies j in
    each_record (λ (before : List Noted) (n : Noted). opening_fits ts before n.rec) (noted j.scenario j.groups)

-- Owners.

abbrev pub live_nodes : Scenario → List Noted → List NodeId
live_nodes scenario recs = filter (λ (id : NodeId). not (is_lost recs id)) (ids_of scenario)

abbrev pub highest_map : Scenario → List Noted → Option PartMap
highest_map scenario recs = highest None (flat_map (maps_at scenario recs) (live_nodes scenario recs))

abbrev pub has_live_owner : List Noted → Row → Bool
has_live_owner recs row = not (has_owner row) || list_any (λ (id : NodeId). not (is_lost recs id)) row.owners

abbrev pub rows_have_live_owners : List Noted → Option PartMap → Bool
rows_have_live_owners recs None = true
rows_have_live_owners recs (Some m) = list_all (has_live_owner recs) m.rows

-- only losses and installs change what is asked
abbrev pub owners_left_at : Scenario → List Noted → Rec → Bool
owners_left_at scenario recs (note.Lost id) = rows_have_live_owners recs (highest_map scenario recs)
owners_left_at scenario recs (note.Install m) = rows_have_live_owners recs (highest_map scenario recs)
owners_left_at scenario recs r = true

-- in the highest map that is installed at a live node each partition that has owners has a live one
abbrev pub owners_left : Journal → Bool
owners_left j = each_record (λ (before : List Noted) (n : Noted). owners_left_at j.scenario (before ++ n ∷ []) n.rec)
    (noted j.scenario j.groups)

-- Claims.

abbrev pub is_claim_of : NodeId → TopVer → Rec → Bool
is_claim_of mover top (note.Deliver from (msg.Complete claimed)) = same_node from mover && same_top claimed top
is_claim_of mover top r = false

abbrev pub movers_claimed : List Rec → Option PartMap → Bool
movers_claimed own None = false
movers_claimed own (Some m) = list_all (λ (mover : NodeId). list_any (is_claim_of mover m.top) own) (movers_in m.rows)

abbrev pub switch_fits : Scenario → List Noted → Event → Bool
switch_fits scenario before (event.Minor id) = movers_claimed (recs_of id before) (highest None (maps_at scenario before id))
switch_fits scenario before e = true

abbrev pub switches_from : Scenario → Homes → List Noted → List Group → Bool
switches_from scenario homes before [] = true
switches_from scenario homes before (g ∷ gs) = switch_fits scenario before g.event
    && switches_from scenario homes (before ++ noted_in scenario homes g) gs

-- the late switch begins only where each mover of the installed map has claimed to be complete under just that map
abbrev pub switches_claimed : Journal → Bool
switches_claimed j = switches_from j.scenario (session_nodes_from 1 [] j.scenario.sessions) [] j.groups

abbrev pub map_laws : Journal → Bool
map_laws j = one_coordinator j && opened_when_installed j && owners_left j && switches_claimed j
