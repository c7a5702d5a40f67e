-- What the laws of topology see of a world and its journal: of each node what it keeps of the exchange, what lies in the
-- inboxes, the topology events, and the records. The state of one node that acts is put over the rest.
use Rattle.std.specs.List.{list_any}
use Rattle.std.specs.Prelude.{Bool, Option, Some, false, if◌then◌else◌, take, ℕ, ◌&&◌, ◌++◌}
use Rattle.part_model.specs.Orders.{is_node}
use Rattle.ignite_types.specs.Names.{same_node, same_top}
use Rattle.ignite_types.specs.declared.journal.Rec.{Rec}
use Rattle.ignite_types.specs.declared.journal.TopoEvent.{TopoEvent}
use Rattle.ignite_types.specs.declared.list.List.{List}
use Rattle.ignite_types.specs.declared.message.Message.{Message}
use Rattle.ignite_types.specs.declared.message.Out.{Out}
use Rattle.ignite_types.specs.declared.message.Single.{Single}
use Rattle.ignite_types.specs.declared.names.NodeId.{NodeId}
use Rattle.ignite_types.specs.declared.names.TopVer.{TopVer}
use Rattle.ignite_types.specs.declared.placement.PartMap.{PartMap}
use Rattle.ignite_types.specs.declared.scenario.Scenario.{Scenario}
use Rattle.journal_statements.specs.Noted.{Noted, map_of_version, maps_installed, noted_by}
use Rattle.journal_statements.specs.Topologies.{Topology, first_topology, last_topology}
use Rattle.node_state.specs.declared.life.Life.{Life}
use Rattle.node_state.specs.Node.{NodeState}
use Rattle.node_state.specs.declared.topology.Exchange.{Exchange}
use Rattle.scenes.specs.Scenes as scenes
use Rattle.ignite_types.specs.declared.journal.Rec.TheVariants as note
use Rattle.node_state.specs.declared.life.Life.TheVariants as life

-- what of a node's state these laws speak of
pub record TopologyState : Type 0 where
  pub me : NodeId
  pub read : ℕ
  pub known : Topology
  pub installed : Option PartMap
  pub singles : List Single
  pub exchange : Option Exchange
  pub outbox : List Out

abbrev pub topology_state : NodeState → TopologyState
topology_state s = record {
  me = s.me;
  read = s.read;
  known = record { top = s.seen; members = s.members; running = s.running };
  installed = s.installed;
  singles = s.singles;
  exchange = s.exchange;
  outbox = s.outbox;
}

pub record TopologyPart : Type 0 where
  pub life : Life
  pub state : TopologyState

pub record TopologyScene : Type 0 where
  pub scenario : Scenario
  pub events : List TopoEvent
  pub seat : NodeId → Option TopologyPart
  -- what lies in the inbox of the second from the first
  pub link : NodeId → NodeId → List Message
  pub recs : List Noted

abbrev pub parts_with : NodeId → TopologyPart → (NodeId → Option TopologyPart) → NodeId → Option TopologyPart
parts_with id x f n = if same_node id n then Some x else f n

-- a node in this state, with what it has noted in its act, among the rest
abbrev pub topology_in_act : TopologyScene → NodeId → NodeState → TopologyScene
topology_in_act sc n s = record sc {
  seat = parts_with n (record { life = life.Alive; state = topology_state s }) sc.seat;
  recs = sc.recs ++ noted_by (Some n) s.noted;
}

-- the scene as these laws see it
abbrev pub topology_scene : scenes.Scene → TopologyScene
topology_scene sc = record {
  scenario = sc.scenario;
  events = sc.directory.events;
  seat = λ n. Some (record { life = sc.life n; state = topology_state (sc.state n) });
  link = sc.link;
  recs = sc.recs;
}

-- What a scene says.

-- the topology after so many events
abbrev pub topology_at : TopologyScene → ℕ → Topology
topology_at sc k = last_topology (first_topology sc.scenario) (take k sc.events)

-- the map of a version
abbrev pub map_of : TopologyScene → TopVer → Option PartMap
map_of sc top = map_of_version (maps_installed sc.scenario sc.recs) top

abbrev pub is_install_of_version : TopVer → Rec → Bool
is_install_of_version top (note.Install m) = same_top m.top top
is_install_of_version top r = false

-- whether a node has installed a map of a version
abbrev pub has_noted_map : List Noted → TopVer → NodeId → Bool
has_noted_map recs top node = list_any (λ (n : Noted). is_node node n.node && is_install_of_version top n.rec) recs
