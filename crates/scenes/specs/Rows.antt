-- What a group of laws owes for the rows of a node: Inv holds of the view between any two steps of an act, and Hand of the
-- message that is in hand, until its row has done what it asks.
use Rattle.std.specs.Prelude.{Some, false, true, ℕ, ◌≡◌}
use Rattle.act_rows.specs.Acts.{after_message, after_see, may_answer, may_call}
use Rattle.act_rows.specs.Closing.{after_closing_rules}
use Rattle.act_rows.specs.Commands.{after_answer, after_call}
use Rattle.act_rows.specs.Searches.{after_expire, is_overdue}
use Rattle.part_model.specs.Directory.{event_at}
use Rattle.ignite_types.specs.declared.journal.TopoEvent.{TopoEvent}
use Rattle.ignite_types.specs.declared.message.Message.{Message}
use Rattle.ignite_types.specs.declared.names.NodeId.{NodeId}
use Rattle.ignite_types.specs.declared.names.TxId.{TxId}
use Rattle.ignite_types.specs.declared.scenario.Member.{Member}
use Rattle.journal_statements.specs.Noted.{is_lost}
use Rattle.node_state.specs.Node.{NodeState}
use Rattle.scenes.specs.Events.{joiner_start, IsReady, IsSound}
use Rattle.scenes.specs.Scenes.{Scene, state_at_rest, scene_after_join, scene_after_take}
use Rattle.scenes.specs.ViewEvents.{TakesFirst}
use Rattle.scenes.specs.Views.{HoldsInAct, FlightView, flight_view}
use Rattle.ignite_types.specs.declared.journal.TopoEvent.TheVariants as topo
use Rattle.node_state.specs.declared.life.Life.TheVariants as life

-- a message that was taken, and its sender
pub record MessageInHand : Type 0 where
  pub from : NodeId
  pub message : Message

abbrev pub in_hand_from : NodeId → Message → MessageInHand
in_hand_from from m = record { from = from; message = m }

pub record EachRowKeeps (Inv : FlightView → Type 0) (Hand : Scene → NodeId → MessageInHand → NodeState → Type 0) : Type 0 where
  -- a message comes into the hand
  pub pops : (sc : Scene) (n : NodeId) (s : NodeState) (from : NodeId) (m : Message) → IsSound sc → IsReady sc n s
      → TakesFirst (flight_view sc).flight (flight_view (scene_after_take sc from n m)).flight from n m → Inv (flight_view sc)
      → HoldsInAct Inv (scene_after_take sc from n m) n s × Hand (scene_after_take sc from n m) n (in_hand_from from m) s
  -- its row
  pub messages : (sc : Scene) (n : NodeId) (s : NodeState) (t : MessageInHand) → sc.life n ≡ life.Alive → HoldsInAct Inv sc n s
      → Hand sc n t s → HoldsInAct Inv sc n (after_message s t.from t.message)
  -- what follows any row
  pub closes : (sc : Scene) (n : NodeId) (s : NodeState) → sc.life n ≡ life.Alive → HoldsInAct Inv sc n s
      → HoldsInAct Inv sc n (after_closing_rules s)
  -- the rows without a message
  pub answers : (sc : Scene) (n : NodeId) (s : NodeState) (session : ℕ) → IsSound sc → IsReady sc n s
      → may_answer s session ≡ true → HoldsInAct Inv sc n s → HoldsInAct Inv sc n (after_answer s session)
  pub calls : (sc : Scene) (n : NodeId) (s : NodeState) (session : ℕ) → IsSound sc → IsReady sc n s → may_call s session ≡ true
      → HoldsInAct Inv sc n s → HoldsInAct Inv sc n (after_call s session)
  pub expires : (sc : Scene) (n : NodeId) (s : NodeState) (tx : TxId) → IsSound sc → IsReady sc n s → tx.node ≡ n
      → is_overdue s tx ≡ true → HoldsInAct Inv sc n s → HoldsInAct Inv sc n (after_expire s tx)
  pub sees : (sc : Scene) (n : NodeId) (s : NodeState) (e : TopoEvent) → sc.life n ≡ life.Alive
      → event_at sc.directory s.read ≡ Some e → HoldsInAct Inv sc n s → HoldsInAct Inv sc n (after_see s s.read e)
  -- a joiner learns the events before its own Join, which it is about to see
  pub learns : (sc : Scene) (m : Member) (s : NodeState) → IsSound sc → sc.life m.node ≡ life.Absent
      → is_lost sc.recs m.node ≡ false → sc.state m.node ≡ state_at_rest s → Inv (flight_view sc)
      → HoldsInAct Inv (scene_after_join sc m) m.node (joiner_start sc s)
      × (event_at (scene_after_join sc m).directory (joiner_start sc s).read ≡ Some (topo.Join m))
