-- The records of a journal, each with the node that noted it; and what they say of nodes, versions and maps.
use Rattle.std.specs.List.{find, flat_map, list_all, list_any}
use Rattle.std.specs.Option.{option_and_then}
use Rattle.std.specs.Ordering.{nat_cmp}
use Rattle.std.specs.Prelude.{Bool, None, Option, Some, [], false, if◌then◌else◌, map, slice_get, true, ℕ, ◌&&◌, ◌++◌, ◌||◌, ◌∷◌}
use Rattle.act_rows.specs.NewNodes.{opening_map_of}
use Rattle.part_model.specs.Orders.{is_node}
use Rattle.ignite_types.specs.Names.{same_key, same_node, same_top, same_tx}
use Rattle.ignite_types.specs.Placement.{holders, row_of}
use Rattle.ignite_types.specs.declared.journal.Event.{Event}
use Rattle.ignite_types.specs.declared.journal.Group.{Group}
use Rattle.ignite_types.specs.declared.journal.Rec.{Rec}
use Rattle.ignite_types.specs.declared.list.List.{List}
use Rattle.ignite_types.specs.declared.names.NodeId.{NodeId}
use Rattle.ignite_types.specs.declared.names.TopVer.{TopVer}
use Rattle.ignite_types.specs.declared.names.TxId.{TxId}
use Rattle.ignite_types.specs.declared.placement.PartMap.{PartMap}
use Rattle.ignite_types.specs.declared.placement.Row.{Row}
use Rattle.ignite_types.specs.declared.scenario.PlanStep.{PlanStep}
use Rattle.ignite_types.specs.declared.scenario.Scenario.{Scenario}
use Rattle.ignite_types.specs.declared.scenario.Step.{Step}
use Rattle.ignite_types.specs.declared.text.Key.{Key}
use Rattle.ordered_table.specs.Entries.{at}
use Rattle.tx_model.specs.Opening.{session_nodes_from}
use Rattle.ignite_types.specs.declared.journal.Event.TheVariants as event
use Rattle.ignite_types.specs.declared.journal.Rec.TheVariants as note
use Rattle.ignite_types.specs.declared.scenario.Step.TheVariants as step

-- a record, and the node that noted it; none for the directory's
pub record Noted : Type 0 where
  pub node : Option NodeId
  pub rec : Rec

abbrev pub Homes : Type 0
Homes = List (ℕ × NodeId)

-- the node that acts in an event
abbrev pub actor : Homes → Event → Option NodeId
actor session_nodes (event.Answer session) = at nat_cmp session_nodes session
actor session_nodes (event.Act id from) = Some id
actor session_nodes (event.Send id) = Some id
actor session_nodes (event.See id) = Some id
actor session_nodes (event.Expire tx) = Some tx.node
actor session_nodes (event.Minor id) = Some id
actor session_nodes (event.Call session) = at nat_cmp session_nodes session
actor session_nodes event.Plan = None
actor session_nodes event.Tick = None
actor session_nodes (event.Memory id) = Some id

abbrev pub joiner_at : Step → Option NodeId
joiner_at (step.Join member) = Some member.node
joiner_at other = None

abbrev pub joiner_in : Option PlanStep → Option NodeId
joiner_in None = None
joiner_in (Some planned) = joiner_at planned.step

abbrev pub noted_by : Option NodeId → List Rec → List Noted
noted_by who recs = map (λ (r : Rec). record { node = who; rec = r }) recs

-- behind a join step's Planned stand the joiner's records
abbrev pub noted_in_plan : Scenario → List Rec → List Noted
noted_in_plan scenario [] = []
noted_in_plan scenario (note.Planned place refused ∷ rs) = record { node = None; rec = note.Planned place refused }
    ∷ noted_by (joiner_in (slice_get scenario.plan place)) rs
noted_in_plan scenario (r ∷ rs) = noted_by None (r ∷ rs)

abbrev pub noted_for : Scenario → Option NodeId → Event → List Rec → List Noted
noted_for scenario who event.Plan recs = noted_in_plan scenario recs
noted_for scenario who e recs = noted_by who recs

abbrev pub noted_in : Scenario → Homes → Group → List Noted
noted_in scenario session_nodes g = noted_for scenario (actor session_nodes g.event) g.event g.recs

-- all records in their order
abbrev pub noted : Scenario → List Group → List Noted
noted scenario groups = let session_nodes = session_nodes_from 1 [] scenario.sessions in
    flat_map (λ (g : Group). noted_in scenario session_nodes g) groups

abbrev pub rec_of : NodeId → Noted → List Rec
rec_of id n = if is_node id n.node then n.rec ∷ [] else []

-- what one node noted
abbrev pub recs_of : NodeId → List Noted → List Rec
recs_of id recs = flat_map (rec_of id) recs

-- Versions and maps.

abbrev pub map_in : Rec → List PartMap
map_in (note.Install m) = m ∷ []
map_in r = []

-- the maps that were installed, the opening map first
abbrev pub maps_installed : Scenario → List Noted → List PartMap
maps_installed scenario recs = opening_map_of scenario ∷ flat_map (λ (n : Noted). map_in n.rec) recs

-- the map of a version
abbrev pub map_of_version : List PartMap → TopVer → Option PartMap
map_of_version maps top = find (λ (m : PartMap). same_top m.top top) maps

abbrev pub start_noted : TxId → Rec → List TopVer
start_noted tx (note.Start u top) = if same_tx u tx then top ∷ [] else []
start_noted tx r = []

-- the version of a transaction
abbrev pub version_of_tx : List Noted → TxId → Option TopVer
version_of_tx recs tx = slice_get (flat_map (λ (n : Noted). start_noted tx n.rec) recs) 0

abbrev pub holders_of_row : Option Row → List NodeId
holders_of_row None = []
holders_of_row (Some row) = holders row

abbrev pub holders_in : Key → Option PartMap → List NodeId
holders_in key None = []
holders_in key (Some m) = holders_of_row (row_of m key)

-- the holders of a key for a transaction: the owners and movers in the map of its version
abbrev pub holders_of_key : List PartMap → List Noted → TxId → Key → List NodeId
holders_of_key maps recs tx key = holders_in key (option_and_then (map_of_version maps) (version_of_tx recs tx))

abbrev pub is_lost_in : NodeId → Rec → Bool
is_lost_in node (note.Lost lost) = same_node lost node
is_lost_in node r = false

-- whether these records have the loss of a node
abbrev pub is_lost : List Noted → NodeId → Bool
is_lost recs node = list_any (λ (n : Noted). is_lost_in node n.rec) recs

abbrev pub is_apply_in : TxId → Key → Rec → Bool
is_apply_in tx key (note.Apply u top primary k new ver) = same_tx u tx && same_key k key
is_apply_in tx key r = false

-- whether a node has applied a transaction's write of a key
abbrev pub is_applied : List Noted → TxId → Key → NodeId → Bool
is_applied recs tx key node = list_any (λ (n : Noted). is_node node n.node && is_apply_in tx key n.rec) recs

-- each of these holders has applied the write, or is lost
abbrev pub all_applied : List Noted → TxId → Key → List NodeId → Bool
all_applied recs tx key nodes = list_all (λ (node : NodeId). is_lost recs node || is_applied recs tx key node) nodes

abbrev pub is_commit_in : TxId → Rec → Bool
is_commit_in tx (note.Decide u commit) = same_tx u tx && commit
is_commit_in tx r = false

abbrev pub is_committed_before : List Noted → TxId → Bool
is_committed_before recs tx = list_any (λ (n : Noted). is_commit_in tx n.rec) recs

-- Statements about each record and those before it.

abbrev pub each_from : (List Noted → Noted → Bool) → List Noted → List Noted → Bool
each_from test before [] = true
each_from test before (n ∷ ns) = test before n && each_from test (before ++ n ∷ []) ns

-- the test holds of each record, by the records before it
abbrev pub each_record : (List Noted → Noted → Bool) → List Noted → Bool
each_record test recs = each_from test [] recs
