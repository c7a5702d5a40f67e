-- What each event owes of a statement of views: what is sent is on its way from then on until it is taken, so that its leaving
-- the outbox is no event. A taken message is in the hand of its node, and no longer on its way.
use Rattle.std.specs.Prelude.{Bool, None, Option, Some, false, true, ℕ, ◌&&◌, ◌++◌, ◌∷◌, ◌≡◌, ◌⊎◌}
use Rattle.act_rows.specs.Acts.{after_message, after_see, may_answer, may_call}
use Rattle.act_rows.specs.Closing.{after_closing_rules}
use Rattle.act_rows.specs.Commands.{after_answer, after_call}
use Rattle.act_rows.specs.Searches.{after_expire, is_overdue}
use Rattle.part_model.specs.Directory.{Directory, at_moment, event_at, with_event}
use Rattle.ignite_types.specs.Names.{same_node}
use Rattle.ignite_types.specs.declared.journal.Rec.{Rec}
use Rattle.ignite_types.specs.declared.journal.TopoEvent.{TopoEvent}
use Rattle.ignite_types.specs.declared.list.List.{List}
use Rattle.ignite_types.specs.declared.message.Message.{Message}
use Rattle.ignite_types.specs.declared.names.NodeId.{NodeId}
use Rattle.ignite_types.specs.declared.names.TxId.{TxId}
use Rattle.ignite_types.specs.declared.scenario.Member.{Member}
use Rattle.journal_statements.specs.Noted.{is_lost}
use Rattle.node_state.specs.Node.{NodeState}
use Rattle.scenes.specs.Events.{joiner_end, IsReady, IsSound, MayBeLost, is_cache_switch}
use Rattle.scenes.specs.Scenes.{Scene, state_at_moment, state_at_rest, scene_after_join, one_record, plan_records, scene_after_take}
use Rattle.scenes.specs.Views.{HoldsInAct, FlightView, view_after_loss, flight_view}
use Rattle.tx_model.specs.World.{is_alive}
use Rattle.ignite_types.specs.declared.journal.Rec.TheVariants as note
use Rattle.ignite_types.specs.declared.journal.TopoEvent.TheVariants as topo
use Rattle.node_state.specs.declared.life.Life.TheVariants as life

-- a record of an event that changes nothing in a view beside its records
abbrev pub is_outside_record : Rec → Bool
is_outside_record (note.Sent to message) = true
is_outside_record (note.Planned place refused) = true
is_outside_record note.Memory = true
is_outside_record _ = false

-- a message that was taken from a link; the others are as they were
pub record TakesFirst (before after : NodeId → NodeId → List Message) (from to : NodeId) (m : Message) : Type 0 where
  pub first : before from to ≡ m ∷ after from to
  pub others : (a b : NodeId) → (same_node from a && same_node to b) ≡ false → after a b ≡ before a b

abbrev pub IsWithoutOne : List Message → List Message → Type 0
IsWithoutOne before after =
    (earlier : List Message) × (m : Message) × (later : List Message) × (before ≡ earlier ++ m ∷ later)
    × (after ≡ earlier ++ later)

-- the same messages, or without one that went to a node that has not joined
pub record DropsOne (before after : NodeId → NodeId → List Message) (from to : NodeId) : Type 0 where
  pub rest : (a b : NodeId) → (after a b ≡ before a b) ⊎ IsWithoutOne (before a b) (after a b)

-- acts: what holds before the first row holds after the last
pub record EachActKeeps (Inv : FlightView → Type 0) : Type 0 where
  pub answers : (sc : Scene) (n : NodeId) (s : NodeState) (session : ℕ) → IsSound sc → IsReady sc n s
      → may_answer s session ≡ true → HoldsInAct Inv sc n s → HoldsInAct Inv sc n (after_answer s session)
  pub calls : (sc : Scene) (n : NodeId) (s : NodeState) (session : ℕ) → IsSound sc → IsReady sc n s → may_call s session ≡ true
      → HoldsInAct Inv sc n s → HoldsInAct Inv sc n (after_closing_rules (after_call s session))
  pub expires : (sc : Scene) (n : NodeId) (s : NodeState) (tx : TxId) → IsSound sc → IsReady sc n s → tx.node ≡ n
      → is_overdue s tx ≡ true → HoldsInAct Inv sc n s → HoldsInAct Inv sc n (after_closing_rules (after_expire s tx))
  pub sees : (sc : Scene) (n : NodeId) (s : NodeState) (e : TopoEvent) → IsSound sc → IsReady sc n s
      → event_at sc.directory s.read ≡ Some e → HoldsInAct Inv sc n s →
      HoldsInAct Inv sc n (after_closing_rules (after_see s s.read e))
  pub takes : (sc : Scene) (n : NodeId) (s : NodeState) (from : NodeId) (m : Message) → IsSound sc → IsReady sc n s
      → TakesFirst (flight_view sc).flight (flight_view (scene_after_take sc from n m)).flight from n m → Inv (flight_view sc)
      → HoldsInAct Inv (scene_after_take sc from n m) n (after_closing_rules (after_message s from m))
  -- a node joins, and sees its own Join
  pub joins : (sc : Scene) (m : Member) (s : NodeState) → IsSound sc → sc.life m.node ≡ life.Absent
      → is_lost sc.recs m.node ≡ false → sc.state m.node ≡ state_at_rest s → Inv (flight_view sc)
      → HoldsInAct Inv (scene_after_join sc m) m.node (joiner_end sc m s)

abbrev pub view_after_tick : FlightView → ℕ → FlightView
view_after_tick v to = record v {
  directory = at_moment v.directory to;
  state = λ n. state_at_moment to (is_alive (v.life n)) (v.state n);
  recs = v.recs ++ one_record None (note.Tick to);
}

-- the rest
pub record EachWorldEventKeeps (Inv : FlightView → Type 0) : Type 0 where
  pub loses : (sc : Scene) (n : NodeId) → IsSound sc → MayBeLost sc n → Inv (flight_view sc)
      → Inv (view_after_loss n (plan_records sc None ++ one_record None (note.Lost n)) (flight_view sc))
  -- a message to a node that has not joined is lost
  pub drops : (v : FlightView) (flight : NodeId → NodeId → List Message) (from to : NodeId) → v.life to ≡ life.Absent
      → DropsOne v.flight flight from to → Inv v → Inv (record v { flight = flight })
  -- records that say nothing of nodes, answers that are counted, versions, and the clock
  pub aside : (v : FlightView) (d : Directory) (who : Option NodeId) (r : Rec) → d.events ≡ v.directory.events
      → d.members ≡ v.directory.members → is_outside_record r ≡ true → Inv v
      → Inv (record v { directory = d; recs = v.recs ++ one_record who r })
  pub answered : (v : FlightView) (d : Directory) → d.events ≡ v.directory.events → d.members ≡ v.directory.members → Inv v
      → Inv (record v { directory = d })
  pub appends : (v : FlightView) (e : TopoEvent) → (is_cache_switch e ≡ true) ⊎ (e ≡ topo.Minor) → Inv v
      → Inv (record v { directory = with_event v.directory e })
  pub ticks : (v : FlightView) (to : ℕ) → Inv v
      → Inv (view_after_tick v to)

pub record EachViewEventKeeps (Inv : FlightView → Type 0) : Type 0 where
  pub acts : EachActKeeps Inv
  pub world : EachWorldEventKeeps Inv
