-- A scene as laws see it that speak of messages on their way: on each link what lies in the inbox, followed by what the
-- sender's outbox has for it. From and to a lost node nothing is on its way.
use Rattle.std.specs.Prelude.{Bool, [], if◌then◌else◌, ◌&&◌, ◌++◌, ◌||◌, ◌∷◌}
use Rattle.part_model.specs.Directory.{Directory, with_event, with_step_done}
use Rattle.ignite_types.specs.Names.{same_node}
use Rattle.ignite_types.specs.declared.list.List.{List}
use Rattle.ignite_types.specs.declared.message.Message.{Message}
use Rattle.ignite_types.specs.declared.message.Out.{Out}
use Rattle.ignite_types.specs.declared.names.NodeId.{NodeId}
use Rattle.ignite_types.specs.declared.scenario.Scenario.{Scenario}
use Rattle.journal_statements.specs.Noted.{Noted}
use Rattle.link_laws.specs.Carrying.{is_gone}
use Rattle.node_state.specs.declared.life.Life.{Life}
use Rattle.node_state.specs.Node.{NodeState}
use Rattle.scenes.specs.Scenes.{Scene, scene_in_act, state_after_loss, lives_with, is_survivor, links_without}
use Rattle.ignite_types.specs.declared.journal.TopoEvent.TheVariants as topo
use Rattle.node_state.specs.declared.life.Life.TheVariants as life

pub record FlightView : Type 0 where
  pub scenario : Scenario
  pub directory : Directory
  pub life : NodeId → Life
  -- with no outbox
  pub state : NodeId → NodeState
  pub flight : NodeId → NodeId → List Message
  pub recs : List Noted

-- the messages of an outbox that go to this node
abbrev pub outbox_for : NodeId → List Out → List Message
outbox_for to [] = []
outbox_for to (out ∷ outs) = if same_node out.to to then out.msg ∷ outbox_for to outs else outbox_for to outs

abbrev pub flight_unless_gone : Bool → List Message → List Message
flight_unless_gone gone ms = if gone then [] else ms

abbrev pub flight_view : Scene → FlightView
flight_view sc = record {
  scenario = sc.scenario;
  directory = sc.directory;
  life = sc.life;
  state = λ n. record (sc.state n) { outbox = [] };
  flight = λ a b.
      flight_unless_gone (is_gone (sc.life a) || is_gone (sc.life b)) (sc.link a b ++ outbox_for b (sc.state a).outbox);
  recs = sc.recs;
}

-- a statement of views, with a node in this state in the midst of its act
abbrev pub HoldsInAct : (FlightView → Type 0) → Scene → NodeId → NodeState → Type 0
HoldsInAct Inv sc n s = Inv (flight_view (scene_in_act sc n s))

-- one more message is on its way
abbrev pub flight_after_send : NodeId → NodeId → Message → (NodeId → Life) → (NodeId → NodeId → List Message) → NodeId →
    NodeId
    → List Message
flight_after_send from to m lives f a b = if same_node from a && same_node to b
    then f a b ++ flight_unless_gone (is_gone (lives a) || is_gone (lives b)) (m ∷ [])
    else f a b

abbrev pub view_after_send : NodeId → NodeId → Message → FlightView → FlightView
view_after_send from to m v = record v { flight = flight_after_send from to m v.life v.flight }

-- a loss
abbrev pub view_after_loss : NodeId → List Noted → FlightView → FlightView
view_after_loss id more v = record v {
  directory = with_step_done (with_event v.directory (topo.Left id));
  life = lives_with id life.Gone v.life;
  state = λ n. state_after_loss id (is_survivor id n (v.life n)) (v.state n);
  flight = links_without id v.flight;
  recs = v.recs ++ more;
}
