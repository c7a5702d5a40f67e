-- A statement of views that owes nothing is kept by each event.
use Rattle.std.proofs.Common.{◌≡◌, ◌++◌, ◌||◌, ◌⊎◌, inl, inr, List, ◌∷◌, Some, None, Bool, true, false, if◌then◌else◌, refl, ap, sym, subst, ◌∙◌}
use Rattle.std.specs.Prelude.{drop}
use Rattle.act_rows.specs.Commands.{after_answer}
use Rattle.part_model.specs.Directory.{with_answer_given, with_event, with_step_done}
use Rattle.ignite_types.proofs.NameLaws.{same_node_true}
use Rattle.ignite_types.specs.Names.{same_node}
use Rattle.ignite_types.specs.declared.message.Message.{Message}
use Rattle.ignite_types.specs.declared.message.Out.{Out}
use Rattle.ignite_types.specs.declared.names.NodeId.{NodeId}
use Rattle.link_laws.specs.Carrying.{is_gone}
use Rattle.node_state.specs.declared.life.Life.{Life}
use Rattle.node_state.specs.Node.{NodeState}
use Rattle.scenes.specs.Events.{EachEventKeeps, IsReady}
use Rattle.scenes.specs.Scenes.{Scene, scene_in_act, scene_after_drop, scene_with_directory}
use Rattle.scenes.specs.ViewEvents.{DropsOne, EachViewEventKeeps}
use Rattle.scenes.specs.Views.{HoldsInAct, FlightView, flight_unless_gone, outbox_for, flight_view}
use Rattle.scenes.proofs.Views.{begins, dropped_view, first_view, lost_view, moved_view, other_view, with_flight}
use Rattle.tx_model.specs.World.{is_alive}
use Rattle.ignite_types.specs.declared.journal.Rec.TheVariants as note
use Rattle.ignite_types.specs.declared.journal.TopoEvent.TheVariants as topo
use Rattle.node_state.specs.declared.life.Life.TheVariants as life

module _ (Inv : FlightView → Type 0) (ev : EachViewEventKeeps Inv) where
  started : (sc : Scene) (n : NodeId) (s : NodeState) → IsReady sc n s → Inv (flight_view sc) → HoldsInAct Inv sc n s
  started sc n s r i = subst (λ (x : Scene). Inv (flight_view x)) (sym (begins sc n s r)) i

  -- what is left on its way of what was dropped
  abbrev left_of : (sc : Scene) (n : NodeId) (s : NodeState) (out : Out) → NodeId → NodeId → List Message
  left_of sc n s out a b = flight_unless_gone (is_gone (sc.life a) || is_gone (sc.life b))
      (sc.link a b ++ outbox_for b (if same_node n a then drop 1 s.outbox else (sc.state a).outbox))

  dropped_rest : (sc : Scene) (n : NodeId) (s : NodeState) (out : Out) → IsReady sc n s → s.outbox ≡ out ∷ drop 1 s.outbox →
      DropsOne (flight_view sc).flight (left_of sc n s out) n out.to
  dropped_rest sc n s out r first =
      record {
        rest = λ a b. each a b (is_gone (sc.life a) || is_gone (sc.life b)) (same_node n a) refl
            (same_node out.to b) refl;
      }
    where
      outbox_at : (a : NodeId) → same_node n a ≡ true → (sc.state a).outbox ≡ out ∷ drop 1 s.outbox
      outbox_at a same = ap (λ (x : NodeId). (sc.state x).outbox) (sym (same_node_true n a same))
          ∙ ap (λ (x : NodeState). x.outbox) r.state_is ∙ first

      each : (a b : NodeId) (gone c : Bool) → same_node n a ≡ c → (d : Bool) → same_node out.to b ≡ d
          → let before = flight_unless_gone gone (sc.link a b ++ outbox_for b (sc.state a).outbox) in let after =
          flight_unless_gone gone (sc.link a b ++ outbox_for b (if c then drop 1 s.outbox else (sc.state a).outbox)) in
          (after ≡ before) ⊎ ((earlier : List Message) × (m : Message) × (later : List Message)
          × (before ≡ earlier ++ m ∷ later) × (after ≡ earlier ++ later))
      each a b true c from d to = inl refl
      each a b false true from true to = inr (
        sc.link a b,
        out.msg,
        outbox_for b (drop 1 s.outbox),
        ap (λ os. sc.link a b ++ outbox_for b os) (outbox_at a from)
            ∙ ap (λ (c : Bool). sc.link a b ++ (if c then out.msg ∷ outbox_for b (drop 1 s.outbox) else outbox_for b
            (drop 1 s.outbox))) to,
        refl,
      )
      each a b false true from false to =
          inl (sym (ap (λ os. sc.link a b ++ outbox_for b os) (outbox_at a from)
          ∙ ap (λ (c : Bool). sc.link a b ++ (if c then out.msg ∷ outbox_for b (drop 1 s.outbox) else outbox_for b
          (drop 1 s.outbox))) to))
      each a b false false from d to = inl refl

  drop_kept : (sc : Scene) (n : NodeId) (s : NodeState) (out : Out) → IsReady sc n s → s.outbox ≡ out ∷ drop 1 s.outbox →
      (at : Life) → sc.life out.to ≡ at → is_alive at ≡ false → Inv (flight_view sc)
      → Inv (flight_view (scene_in_act (scene_after_drop sc n out) n (record s { outbox = drop 1 s.outbox })))
  drop_kept sc n s out r first life.Alive at away i = absurd (cc (away))
  drop_kept sc n s out r first life.Gone at away i =
      subst Inv (sym (dropped_view sc n s out r first (ap is_gone at))) (ev.world.aside (flight_view sc) sc.directory (Some n)
      (note.Sent out.to out.msg) refl refl refl i)
  drop_kept sc n s out r first life.Absent at away i =
      subst Inv (sym (with_flight sc n s out r first sc.link (left_of sc n s out) (λ a b. refl)))
      (ev.world.aside (record (flight_view sc) { flight = left_of sc n s out }) sc.directory (Some n)
      (note.Sent out.to out.msg) refl refl refl
      (ev.world.drops (flight_view sc) (left_of sc n s out) n out.to at (dropped_rest sc n s out r first) i))

  pub views_kept : EachEventKeeps (λ (sc : Scene). Inv (flight_view sc))
  views_kept = record {
    answers = λ sc n s session sound r may i.
        ev.world.answered (flight_view (scene_in_act sc n (after_answer s session))) (with_answer_given sc.directory) refl
        refl (ev.acts.answers sc n s session sound r may (started sc n s r i));
    calls = λ sc n s session sound r may i. ev.acts.calls sc n s session sound r may (started sc n s r i);
    takes = λ sc n s from m sound r first i. ev.acts.takes sc n s from m sound r
        (record { first = first_view sc n from m sound r.alive first; others = other_view sc n from m sound r.alive first }) i;
    expires = λ sc n s tx sound r own may i. ev.acts.expires sc n s tx sound r own may (started sc n s r i);
    sees = λ sc n s e sound r there i. ev.acts.sees sc n s e sound r there (started sc n s r i);
    switches = λ sc n s sound r may same i. ev.world.appends (flight_view sc) topo.Minor (inr refl) i;
    moves = λ sc n s out sound r first i. subst Inv (sym (moved_view sc n s out r first))
        (ev.world.aside (flight_view sc) sc.directory (Some n) (note.Sent out.to out.msg) refl refl refl i);
    drops = λ sc n s out sound r first away i. drop_kept sc n s out r first (sc.life out.to) refl away i;
    joins = λ sc m s sound absent new is i. ev.acts.joins sc m s sound absent new is i;
    loses = λ sc n sound lives i. subst Inv (sym (lost_view sc n)) (ev.world.loses sc n sound lives i);
    plans = λ sc refused sound i. ev.world.aside (flight_view sc) (with_step_done sc.directory) None
        (note.Planned sc.directory.done refused) refl refl refl i;
    starts = λ sc e sound is i. ev.world.aside (flight_view (scene_with_directory sc (with_event sc.directory e)))
        (with_step_done (with_event sc.directory e)) None (note.Planned sc.directory.done None) refl refl refl
        (ev.world.appends (flight_view sc) e (inl is) i);
    ticks = λ sc to sound i. ev.world.ticks (flight_view sc) to i;
    breaks = λ sc n sound i. ev.world.aside (flight_view sc) sc.directory (Some n) note.Memory refl refl refl i;
  }
