-- A statement of views that rows keep is kept by acts.
use Rattle.std.proofs.Common.{◌≡◌, Bool, if◌then◌else◌, ap}
use Rattle.act_rows.specs.Acts.{after_message, after_see, with_act_begun}
use Rattle.act_rows.specs.Commands.{after_call}
use Rattle.act_rows.specs.Exchange.{after_learn_all}
use Rattle.act_rows.specs.Searches.{after_expire}
use Rattle.ignite_types.proofs.NameLaws.{same_node_itself}
use Rattle.ignite_types.specs.declared.names.NodeId.{NodeId}
use Rattle.node_state.specs.Node.{NodeState}
use Rattle.scenes.specs.Events.{EachEventKeeps}
use Rattle.scenes.specs.Rows.{EachRowKeeps, MessageInHand, in_hand_from}
use Rattle.scenes.specs.Scenes.{Scene, scene_after_join, scene_after_take}
use Rattle.scenes.specs.ViewEvents.{EachActKeeps, EachWorldEventKeeps}
use Rattle.scenes.specs.Views.{FlightView, flight_view}
use Rattle.scenes.proofs.ViewEvents.{views_kept}
use Rattle.ignite_types.specs.declared.journal.TopoEvent.TheVariants as topo
use Rattle.node_state.specs.declared.life.Life.TheVariants as life

module _ (Inv : FlightView → Type 0) (Hand : Scene → NodeId → MessageInHand → NodeState → Type 0)
    (rows : EachRowKeeps Inv Hand) where
  pub acts_of : EachActKeeps Inv
  acts_of = record {
    answers = λ sc n s session sound r may i. rows.answers sc n s session sound r may i;
    calls = λ sc n s session sound r may i. rows.closes sc n (after_call s session) r.alive
        (rows.calls sc n s session sound r may i);
    expires = λ sc n s tx sound r own may i. rows.closes sc n (after_expire s tx) r.alive
        (rows.expires sc n s tx sound r own may i);
    sees = λ sc n s e sound r there i. rows.closes sc n (after_see s s.read e) r.alive (rows.sees sc n s e r.alive there i);
    takes = λ sc n s from m sound r popped i.
        let first = rows.pops sc n s from m sound r popped i in
        let after = scene_after_take sc from n m in
        rows.closes after n (after_message s from m) r.alive
        (rows.messages after n s (in_hand_from from m) r.alive first.0 first.1);
    joins = λ sc m s sound absent new is i.
        let start = with_act_begun (after_learn_all s sc.directory.events sc.directory.clock) in
        let first = rows.learns sc m s sound absent new is i in
        let alive : (scene_after_join sc m).life m.node ≡ life.Alive =
        ap (λ (c : Bool). if c then life.Alive else sc.life m.node) (same_node_itself m.node) in
        rows.closes (scene_after_join sc m) m.node (after_see start start.read (topo.Join m)) alive
        (rows.sees (scene_after_join sc m) m.node start (topo.Join m) alive first.1 first.0);
  }

  pub rows_kept : EachWorldEventKeeps Inv → EachEventKeeps (λ (sc : Scene). Inv (flight_view sc))
  rows_kept world = views_kept Inv (record { acts = acts_of; world = world })
