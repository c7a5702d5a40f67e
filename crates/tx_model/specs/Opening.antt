-- The world that a run begins with: version 1.0 is seen, installed and open at every initial node.
use Rattle.std.specs.List.{flat_map}
use Rattle.std.specs.Ordering.{nat_cmp}
use Rattle.std.specs.Prelude.{Bool, None, Option, Some, [], false, if◌then◌else◌, map, true, ℕ, ◌++◌, ◌∷◌}
use Rattle.act_rows.specs.NewNodes.{opening_map_of, opening_node}
use Rattle.part_model.specs.Directory.{node_set, opening_directory}
use Rattle.part_model.specs.Links.{Inbox, new_inbox}
use Rattle.part_model.specs.NextMap.{is_member}
use Rattle.ignite_types.specs.Placement.{capped}
use Rattle.ignite_types.specs.declared.list.List.{List}
use Rattle.ignite_types.specs.declared.names.NodeId.{NodeId}
use Rattle.ignite_types.specs.declared.placement.PartMap.{PartMap}
use Rattle.ignite_types.specs.declared.scenario.Member.{Member}
use Rattle.ignite_types.specs.declared.scenario.PlanStep.{PlanStep}
use Rattle.ignite_types.specs.declared.scenario.Scenario.{Scenario}
use Rattle.ignite_types.specs.declared.scenario.Session.{Session}
use Rattle.ignite_types.specs.declared.scenario.Step.{Step}
use Rattle.ordered_table.specs.Entries.{put}
use Rattle.tx_model.specs.World.{Part, World}
use Rattle.node_state.specs.declared.life.Life.TheVariants as life
use Rattle.ignite_types.specs.declared.scenario.Step.TheVariants as step

-- the nodes that join by a step of the plan, in its order
abbrev pub joins_in : Step → List Member
joins_in (step.Join member) = member ∷ []
joins_in _ = []

abbrev pub joiner_of : PlanStep → List Member
joiner_of s = joins_in s.step

-- the declared nodes: those of node lines, then those of join steps
abbrev pub declared_nodes : Scenario → List Member
declared_nodes scenario = scenario.nodes ++ flat_map joiner_of scenario.plan

-- their numbers, ascending
abbrev pub ids_of : Scenario → List NodeId
ids_of scenario = node_set [] (declared_nodes scenario)

abbrev pub session_nodes_from : ℕ → List (ℕ × NodeId) → List Session → List (ℕ × NodeId)
session_nodes_from number session_nodes [] = session_nodes
session_nodes_from number session_nodes (session ∷ more) =
    session_nodes_from (capped number 1) (put nat_cmp session_nodes number session.node) more

abbrev pub opening_part : Scenario → PartMap → NodeId → Part
opening_part scenario m id = let initial = is_member scenario.nodes id in
    record { node = opening_node scenario m id initial; life = if initial then life.Alive else life.Absent }

abbrev pub opening_parts : Scenario → PartMap → List NodeId → List Part
opening_parts scenario m ids = map (opening_part scenario m) ids

-- an empty inbox for each node
abbrev pub opening_inboxes : List NodeId → List NodeId → List Inbox
opening_inboxes senders ids = map (λ (id : NodeId). new_inbox senders) ids

abbrev pub opening_with : Scenario → PartMap → World
opening_with scenario m = record {
  directory = opening_directory scenario;
  parts = opening_parts scenario m (ids_of scenario);
  inboxes = opening_inboxes (ids_of scenario) (ids_of scenario);
  session_nodes = session_nodes_from 1 [] scenario.sessions;
  broken = false;
}

-- the opening world of a scenario
abbrev pub opening : Scenario → World
opening scenario = opening_with scenario (opening_map_of scenario)
