-- Every event leaves these things alone.
use Rattle.std.proofs.Common.{◌≡◌, ◌++◌, ℕ, suc, List, [], ◌∷◌, Option, Some, None, Bool, true, false, if◌then◌else◌, fold, map, length, slice_get, slice_set, refl, ap, sym, ◌∙◌}
use Rattle.frame_laws.proofs.Acts as acts
use Rattle.frame_laws.proofs.Exchange.{without_single_kept}
use Rattle.frame_laws.proofs.Extending.{append_none, append_twice, extending}
use Rattle.frame_laws.specs.Extending.{OnlyAppends}
use Rattle.act_rows.specs.Acts.{Acted, act_of_send, answer_act, call_act, expire_act, join_act, may_answer, message_act, minor_act, oldest_out, see_act, with_act_begun}
use Rattle.act_rows.specs.Exchange.{after_learn, after_learn_all, without_single}
use Rattle.part_model.specs.Directory.{Directory, directory_after_join, event_at, next_step, refusal_of_loss, with_answer_given, with_event, with_step_done}
use Rattle.part_model.specs.Links.{Inbox, inbox_after_pop, oldest_in, without_messages_of}
use Rattle.ignite_types.specs.Names.{same_node}
use Rattle.ignite_types.specs.declared.journal.Event.{Event}
use Rattle.ignite_types.specs.declared.journal.NoLoss.{NoLoss}
use Rattle.ignite_types.specs.declared.journal.Rec.{Rec}
use Rattle.ignite_types.specs.declared.journal.TopoEvent.{TopoEvent}
use Rattle.ignite_types.specs.declared.message.Message.{Message}
use Rattle.ignite_types.specs.declared.message.Out.{Out}
use Rattle.ignite_types.specs.declared.names.NodeId.{NodeId}
use Rattle.ignite_types.specs.declared.names.TxId.{TxId}
use Rattle.ignite_types.specs.declared.scenario.Member.{Member}
use Rattle.ignite_types.specs.declared.scenario.PlanStep.{PlanStep}
use Rattle.ignite_types.specs.declared.scenario.Step.{Step}
use Rattle.node_state.specs.Node.{NodeState}
use Rattle.run_laws.specs.Staying.{InTime, Stays}
use Rattle.run_laws.proofs.Parts.{in_time_at, numbers, same_length, same_numbers, set_in_time}
use Rattle.tx_model.specs.World as world
use Rattle.tx_model.specs.World.{Part, World, inbox_on, is_alive, live_place, live_session_place, outcome, outcome_of_act, part_on, place_of, plan_outcome_with, with_directory, with_inbox}
use Rattle.ignite_types.specs.declared.journal.Event.TheVariants as event
use Rattle.ignite_types.specs.declared.journal.Rec.TheVariants as note
use Rattle.ignite_types.specs.declared.journal.TopoEvent.TheVariants as topo
use Rattle.ignite_types.specs.declared.scenario.Step.TheVariants as step
use Rattle.node_state.specs.declared.life.Life.TheVariants as life

-- Both at once: what stays, and that the clocks agree still.
pub record Keeps (before after : World) : Type 0 where
  pub stays : Stays before after
  pub in_time : InTime before.directory.clock before.parts → InTime after.directory.clock after.parts

pub itself : (w : World) → Keeps w w
itself w = record {
  stays = record {
    same_ids = refl;
    as_many = refl;
    same_session_nodes = refl;
    same_plan = refl;
    more = [];
    events_are =
        sym (append_none w.directory.events);
  };
  in_time = λ all. all;
}

pub twice : (a b c : World) → Keeps a b → Keeps b c → Keeps a c
twice a b c first second = record {
  stays = record {
    same_ids = second.stays.same_ids ∙ first.stays.same_ids;
    as_many = second.stays.as_many ∙ first.stays.as_many;
    same_session_nodes = second.stays.same_session_nodes ∙ first.stays.same_session_nodes;
    same_plan = second.stays.same_plan ∙ first.stays.same_plan;
    more = first.stays.more ++ second.stays.more;
    events_are = second.stays.events_are ∙ ap (λ es. es ++ second.stays.more) first.stays.events_are
        ∙ append_twice a.directory.events first.stays.more second.stays.more;
  };
  in_time = λ all. second.in_time (first.in_time all);
}

-- One part changes.

part_set : (w : World) (k : ℕ) (p q : Part) → slice_get w.parts k ≡ Some p → q.node.me ≡ p.node.me →
    (InTime w.directory.clock w.parts → is_alive q.life ≡ true → q.node.now ≡ w.directory.clock) →
    Keeps w (record w { parts = slice_set w.parts k q })
part_set w k p q here same now = record {
  stays = record {
    same_ids = same_numbers w.parts k p q here same;
    as_many = refl;
    same_session_nodes = refl;
    same_plan =
        refl;
    more = [];
    events_are = sym (append_none w.directory.events);
  };
  in_time = λ all. set_in_time w.directory.clock w.parts k q all (now all);
}

act_keeps : (w : World) (k : ℕ) (p : Part) (act : Acted) → slice_get w.parts k ≡ Some p → act.state.me ≡ p.node.me →
    act.state.now ≡ p.node.now → Keeps w (outcome_of_act w k p act).world
act_keeps w k p act here me now =
    part_set w k p (record { node = act.state; life = p.life }) here me (λ all alive. now
    ∙ in_time_at w.directory.clock w.parts k p here all alive)

inbox_keeps : (w : World) (k : ℕ) (inbox : Inbox) → Keeps w (with_inbox w k inbox)
inbox_keeps w k inbox = record {
  stays = record {
    same_ids = refl;
    as_many = same_length w.inboxes k inbox;
    same_session_nodes = refl;
    same_plan = refl;
    more = [];
    events_are = sym (append_none w.directory.events);
  };
  in_time = λ all. all;
}

directory_keeps : (w : World) (d : Directory) (more : List TopoEvent) → d.plan ≡ w.directory.plan →
    d.clock ≡ w.directory.clock → d.events ≡ w.directory.events ++ more → Keeps w (with_directory w d)
directory_keeps w d more plan clock events = record {
  stays = record {
    same_ids = refl;
    as_many = refl;
    same_session_nodes = refl;
    same_plan = plan;
    more = more;
    events_are =
        events;
  };
  in_time = λ all. rw clock all;
}

answer_keeps : (w : World) (session : ℕ) (place : Option ℕ) (part : Option Part) → part_on w place ≡ part →
    Keeps w (world.answer_outcome w session place part).world
answer_keeps w session None None here = itself w
answer_keeps w session None (Some p) here = itself w
answer_keeps w session (Some k) None here = itself w
answer_keeps w session (Some k) (Some p) here =
    let w2 = with_directory w (with_answer_given w.directory) in
    elim (may_answer p.node session) as (λ b.
    Keeps w (if b then outcome_of_act w2 k p (answer_act p.node session) else world.unchanged w).world) [
      | true ↦
          let leaves = (acts.answers p.node session).0 in
          twice w w2 (outcome_of_act w2 k p (answer_act p.node session)).world
          (directory_keeps w (with_answer_given w.directory) [] refl refl (sym (append_none w.directory.events)))
          (act_keeps w2 k p (answer_act p.node session) here leaves.same_me leaves.same_now)
      | false ↦ itself w
    ]

take_keeps : (w : World) (k : ℕ) (p : Part) (inbox : Inbox) (from : NodeId) (m : Option Message) →
    slice_get w.parts k ≡ Some p → Keeps w (world.act_outcome_from w k p inbox from m).world
take_keeps w k p inbox from None here = itself w
take_keeps w k p inbox from (Some m) here =
    let w2 = with_inbox w k (inbox_after_pop inbox from) in
    let leaves = (acts.takes p.node from m).0 in
    twice w w2 (outcome_of_act w2 k p (message_act p.node from m)).world (inbox_keeps w k (inbox_after_pop inbox from))
    (act_keeps w2 k p (message_act p.node from m) here leaves.same_me leaves.same_now)

takes_keeps : (w : World) (from : NodeId) (place : Option ℕ) (part : Option Part) (inbox : Option Inbox) →
    part_on w place ≡ part → Keeps w (world.act_outcome w from place part inbox).world
takes_keeps w from None None inbox here = itself w
takes_keeps w from None (Some p) inbox here = itself w
takes_keeps w from (Some k) None inbox here = itself w
takes_keeps w from (Some k) (Some p) None here = itself w
takes_keeps w from (Some k) (Some p) (Some inbox) here = take_keeps w k p inbox from (oldest_in inbox from) here

reach_keeps : (w : World) (from : NodeId) (m : Message) (place : Option ℕ) (inbox : Option Inbox) →
    Keeps w (world.with_inbox_push w from m place inbox)
reach_keeps w from m None inbox = itself w
reach_keeps w from m (Some k) None = itself w
reach_keeps w from m (Some k) (Some inbox) = inbox_keeps w k _

reach_parts : (w : World) (from : NodeId) (m : Message) (place : Option ℕ) (inbox : Option Inbox) →
    (world.with_inbox_push w from m place inbox).parts ≡ w.parts
reach_parts w from m None inbox = refl
reach_parts w from m (Some k) None = refl
reach_parts w from m (Some k) (Some inbox) = refl

send_leaves : (s : NodeState) (out : Option Out) → ((act_of_send s out).state.me ≡ s.me)
    × ((act_of_send s out).state.now ≡ s.now)
send_leaves s None = (refl, refl)
send_leaves s (Some out) = (refl, refl)

sent_keeps : (w : World) (k : ℕ) (p : Part) (out : Option Out) → slice_get w.parts k ≡ Some p →
    Keeps w (outcome_of_act (world.with_delivery w p.node.me out) k p (act_of_send (with_act_begun p.node) out)).world
sent_keeps w k p None here = act_keeps w k p (act_of_send (with_act_begun p.node) None) here refl refl
sent_keeps w k p (Some out) here =
    let place = place_of w out.to in
    let inbox = inbox_on w place in
    let w2 = world.with_inbox_push w p.node.me out.msg place inbox in
    let there : slice_get w2.parts k ≡ Some p =
    ap (λ (ps : List Part). slice_get ps k) (reach_parts w p.node.me out.msg place inbox) ∙ here in
    twice w w2 (outcome_of_act w2 k p (act_of_send (with_act_begun p.node) (Some out))).world
    (reach_keeps w p.node.me out.msg place inbox)
    (act_keeps w2 k p (act_of_send (with_act_begun p.node) (Some out)) there refl refl)

sends_keeps : (w : World) (place : Option ℕ) (part : Option Part) → part_on w place ≡ part →
    Keeps w (world.send_outcome w place part).world
sends_keeps w None None here = itself w
sends_keeps w None (Some p) here = itself w
sends_keeps w (Some k) None here = itself w
sends_keeps w (Some k) (Some p) here = sent_keeps w k p (oldest_out p.node) here

see_keeps : (w : World) (k : ℕ) (p : Part) (e : Option TopoEvent) → slice_get w.parts k ≡ Some p →
    Keeps w (world.see_outcome_of w k p e).world
see_keeps w k p None here = itself w
see_keeps w k p (Some e) here =
    let leaves = (acts.sees p.node e).0 in
    act_keeps w k p (see_act p.node e) here leaves.same_me leaves.same_now

sees_keeps : (w : World) (place : Option ℕ) (part : Option Part) → part_on w place ≡ part →
    Keeps w (world.see_outcome w place part).world
sees_keeps w None None here = itself w
sees_keeps w None (Some p) here = itself w
sees_keeps w (Some k) None here = itself w
sees_keeps w (Some k) (Some p) here = see_keeps w k p (event_at w.directory p.node.read) here

expires_keeps : (w : World) (tx : TxId) (place : Option ℕ) (part : Option Part) → part_on w place ≡ part →
    Keeps w (world.expire_outcome w tx place part).world
expires_keeps w tx None None here = itself w
expires_keeps w tx None (Some p) here = itself w
expires_keeps w tx (Some k) None here = itself w
expires_keeps w tx (Some k) (Some p) here =
    let leaves = (acts.expires p.node tx).0 in
    act_keeps w k p (expire_act p.node tx) here leaves.same_me leaves.same_now

switches_keeps : (w : World) (place : Option ℕ) (part : Option Part) → part_on w place ≡ part →
    Keeps w (world.minor_outcome w place part).world
switches_keeps w None None here = itself w
switches_keeps w None (Some p) here = itself w
switches_keeps w (Some k) None here = itself w
switches_keeps w (Some k) (Some p) here =
    let w2 = with_directory w (with_event w.directory topo.Minor) in
    let leaves = (acts.switches p.node).0 in
    twice w w2 (outcome_of_act w2 k p (minor_act p.node)).world
    (directory_keeps w (with_event w.directory topo.Minor) (topo.Minor ∷ []) refl refl refl)
    (act_keeps w2 k p (minor_act p.node) here leaves.same_me leaves.same_now)

calls_keeps : (w : World) (session : ℕ) (place : Option ℕ) (part : Option Part) → part_on w place ≡ part →
    Keeps w (world.call_outcome w session place part).world
calls_keeps w session None None here = itself w
calls_keeps w session None (Some p) here = itself w
calls_keeps w session (Some k) None here = itself w
calls_keeps w session (Some k) (Some p) here =
    let leaves = (acts.calls p.node session).0 in
    act_keeps w k p (call_act p.node session) here leaves.same_me leaves.same_now

-- The plan.

plan_keeps : (w w2 : World) (d : Directory) (refused : Option NoLoss) (recs : List Rec) (more : List TopoEvent) → Keeps w w2 →
    d.plan ≡ w2.directory.plan → d.clock ≡ w2.directory.clock → d.events ≡ w2.directory.events ++ more →
    Keeps w (plan_outcome_with w2 d refused recs).world
plan_keeps w w2 d refused recs more first plan clock events = twice w w2 (plan_outcome_with w2 d refused recs).world first
    (directory_keeps w2 (with_step_done d) more plan clock events)

learn_leaves : (s : NodeState) (es : List TopoEvent) → (fold after_learn s es).me ≡ s.me
learn_leaves s [] = refl
learn_leaves s (e ∷ es) = learn_leaves (after_learn s e) es

join_keeps : (w : World) (member : Member) (place : Option ℕ) (part : Option Part) → part_on w place ≡ part →
    Keeps w (world.join_outcome w member w.directory place part).world
join_keeps w member None None here = plan_keeps w w w.directory None [] [] (itself w) refl refl
    (sym (append_none w.directory.events))
join_keeps w member None (Some p) here = plan_keeps w w w.directory None [] [] (itself w) refl refl
    (sym (append_none w.directory.events))
join_keeps w member (Some k) None here = plan_keeps w w w.directory None [] [] (itself w) refl refl
    (sym (append_none w.directory.events))
join_keeps w member (Some k) (Some p) here =
    let d = w.directory in
    let own = topo.Join member in
    let act = join_act p.node d.events d.clock own in
    let leaves = (acts.sees (after_learn_all p.node d.events d.clock) own).0 in
    let q : Part = record { node = act.state; life = life.Alive } in
    let me : q.node.me ≡ p.node.me = leaves.same_me ∙ learn_leaves p.node d.events in
    plan_keeps w (record w { parts = slice_set w.parts k q }) (directory_after_join d member) None act.recs (own ∷ [])
    (part_set w k p q here me (λ all alive. leaves.same_now)) refl refl refl

-- a loss
after_loss : (id : NodeId) (p : Part) → (world.part_after_loss id p).node.me ≡ p.node.me
after_loss id p =
    elim (same_node p.node.me id) as (λ b.
    (if b then record { node = p.node; life = life.Gone } else if is_alive p.life then record {
      node =
          without_single p.node id;
      life = p.life;
    } else p).node.me ≡ p.node.me) [
      | true ↦ refl
      | false ↦ elim (is_alive p.life) as (λ b.
          (if b then record { node = without_single p.node id; life = p.life } else p).node.me ≡ p.node.me) [
            | true ↦ (without_single_kept OnlyAppends extending p.node id).same_me
            | false ↦ refl
          ]
    ]

loss_in_time : (clock : ℕ) (id : NodeId) (p : Part) → (is_alive p.life ≡ true → p.node.now ≡ clock) →
    is_alive (world.part_after_loss id p).life ≡ true → (world.part_after_loss id p).node.now ≡ clock
loss_in_time clock id p one =
    elim (same_node p.node.me id) as (λ b. let q : Part =
    (if b then record { node = p.node; life = life.Gone } else if is_alive p.life then record {
      node =
          without_single p.node id;
      life = p.life;
    } else p) in is_alive q.life ≡ true → q.node.now ≡ clock) [
      | true ↦ λ gone. absurd (cc)
      | false ↦ elim (is_alive p.life) as (λ b. let q : Part =
          (if b then record { node = without_single p.node id; life = p.life } else p) in is_alive q.life ≡ true →
          q.node.now ≡ clock) [
            | true ↦ λ alive. (without_single_kept OnlyAppends extending p.node id).same_now ∙ one alive
            | false ↦ one
          ]
    ]

losses_numbers : (id : NodeId) (ps : List Part) → numbers (world.parts_after_loss id ps) ≡ numbers ps
losses_numbers id [] = refl
losses_numbers id (p ∷ ps) = ap (λ n. n ∷ numbers (world.parts_after_loss id ps)) (after_loss id p)
    ∙ ap (λ ns. p.node.me ∷ ns) (losses_numbers id ps)

losses_in_time : (clock : ℕ) (id : NodeId) (ps : List Part) → InTime clock ps → InTime clock (world.parts_after_loss id ps)
losses_in_time clock id [] all = tt
losses_in_time clock id (p ∷ ps) all = (loss_in_time clock id p all.0, losses_in_time clock id ps all.1)

map_length : {A B : Type 0} (f : A → B) (xs : List A) → length (map f xs) ≡ length xs
map_length f [] = refl
map_length f (x ∷ xs) = ap suc (map_length f xs)

emptied_keeps : (w : World) (id : NodeId) → Keeps w (record w { inboxes = world.inboxes_emptied id w.inboxes })
emptied_keeps w id = record {
  stays = record {
    same_ids = refl;
    as_many = map_length (λ (inbox : Inbox). without_messages_of inbox id) w.inboxes;
    same_session_nodes = refl;
    same_plan = refl;
    more = [];
    events_are = sym (append_none w.directory.events);
  };
  in_time = λ all. all;
}

shut_keeps : (w : World) (place : Option ℕ) (inbox : Option Inbox) → Keeps w (world.with_inbox_shut w place inbox)
shut_keeps w None inbox = itself w
shut_keeps w (Some k) None = itself w
shut_keeps w (Some k) (Some inbox) = inbox_keeps w k _

gone_keeps : (w : World) (id : NodeId) → Keeps w (record w { parts = world.parts_after_loss id w.parts })
gone_keeps w id = record {
  stays = record {
    same_ids = losses_numbers id w.parts;
    as_many = refl;
    same_session_nodes = refl;
    same_plan = refl;
    more =
        [];
    events_are = sym (append_none w.directory.events);
  };
  in_time = losses_in_time w.directory.clock id w.parts;
}

lost_keeps : (w : World) (id : NodeId) (place : Option ℕ) → Keeps w (world.world_after_loss w id place)
lost_keeps w id place =
    let w1 = record w { inboxes = world.inboxes_emptied id w.inboxes } in
    let w2 = world.without_links w id place in
    twice w w2 (world.world_after_loss w id place)
    (twice w w1 w2 (emptied_keeps w id) (shut_keeps w1 place (inbox_on w1 place))) (gone_keeps w2 id)

shut_directory : (w : World) (place : Option ℕ) (inbox : Option Inbox) → (world.with_inbox_shut w place inbox).directory
    ≡ w.directory
shut_directory w None inbox = refl
shut_directory w (Some k) None = refl
shut_directory w (Some k) (Some inbox) = refl

loss_keeps : (w : World) (id : NodeId) (refused : Option NoLoss) → Keeps w (world.loss_outcome w id w.directory refused).world
loss_keeps w id (Some why) = plan_keeps w w w.directory (Some why) [] [] (itself w) refl refl
    (sym (append_none w.directory.events))
loss_keeps w id None =
    let place = place_of w id in
    let w1 = record w { inboxes = world.inboxes_emptied id w.inboxes } in
    let same : (world.world_after_loss w id place).directory ≡ w.directory = shut_directory w1 place (inbox_on w1 place) in
    plan_keeps w (world.world_after_loss w id place) (with_event w.directory (topo.Left id)) None (note.Lost id ∷ [])
    (topo.Left id ∷ []) (lost_keeps w id place)
    (sym (ap (λ (d : Directory). d.plan) same)) (sym (ap (λ (d : Directory). d.clock) same))
    (sym (ap (λ (d : Directory). d.events ++ topo.Left id ∷ []) same))

hold_keeps : (w : World) (from : NodeId) (held : Bool) (place : Option ℕ) (inbox : Option Inbox) →
    Keeps w (world.with_link_held w from held place inbox)
hold_keeps w from held None inbox = itself w
hold_keeps w from held (Some k) None = itself w
hold_keeps w from held (Some k) (Some inbox) = inbox_keeps w k _

hold_directory : (w : World) (from : NodeId) (held : Bool) (place : Option ℕ) (inbox : Option Inbox) →
    (world.with_link_held w from held place inbox).directory ≡ w.directory
hold_directory w from held None inbox = refl
hold_directory w from held (Some k) None = refl
hold_directory w from held (Some k) (Some inbox) = refl

link_keeps : (w : World) (from to : NodeId) (held : Bool) →
    Keeps w (plan_outcome_with (world.with_hold_between w from to held) w.directory None []).world
link_keeps w from to held =
    let place = place_of w to in
    let w2 = world.with_hold_between w from to held in
    let same : w2.directory ≡ w.directory = hold_directory w from held place (inbox_on w place) in
    plan_keeps w w2 w.directory None [] [] (hold_keeps w from held place (inbox_on w place))
    (sym (ap (λ (d : Directory). d.plan) same)) (sym (ap (λ (d : Directory). d.clock) same))
    (sym (append_none w2.directory.events ∙ ap (λ (d : Directory). d.events) same))

step_keeps : (w : World) (s : Step) → Keeps w (world.step_outcome w w.directory s).world
step_keeps w (step.Join member) = let place = place_of w member.node in join_keeps w member place (part_on w place) refl
step_keeps w (step.Lose id) = loss_keeps w id (refusal_of_loss w.directory id (world.best_map_without w id))
step_keeps w (step.Hold from to) = link_keeps w from to true
step_keeps w (step.Release from to) = link_keeps w from to false
step_keeps w (step.Start cache) = plan_keeps w w (with_event w.directory (topo.Start cache)) None [] (topo.Start cache ∷ [])
    (itself w) refl refl refl
step_keeps w (step.Stop cache) = plan_keeps w w (with_event w.directory (topo.Stop cache)) None [] (topo.Stop cache ∷ [])
    (itself w) refl refl refl

plans_keeps : (w : World) (s : Option PlanStep) → Keeps w (world.plan_outcome w s).world
plans_keeps w None = itself w
plans_keeps w (Some s) = step_keeps w s.step

-- The clock.

moment_numbers : (to : ℕ) (ps : List Part) → numbers (world.parts_at_moment to ps) ≡ numbers ps
moment_numbers to [] = refl
moment_numbers to (p ∷ ps) =
    ap (λ n. n ∷ numbers (world.parts_at_moment to ps))
    (elim (is_alive p.life) as (λ b. (if b then record { node = record p.node { now = to }; life = p.life } else p).node.me
    ≡ p.node.me) [ true ↦ refl | false ↦ refl ])
    ∙ ap (λ ns. p.node.me ∷ ns) (moment_numbers to ps)

moment_in_time : (to : ℕ) (ps : List Part) → InTime to (world.parts_at_moment to ps)
moment_in_time to [] = tt
moment_in_time to (p ∷ ps) = (
  elim (is_alive p.life) as (λ b. is_alive p.life ≡ b → let q : Part =
      (if b then record { node = record p.node { now = to }; life = p.life } else p) in is_alive q.life ≡ true →
      q.node.now ≡ to) [
        | true ↦ λ is alive. refl
        | false ↦ λ is alive. absurd (cc)
      ] refl,
  moment_in_time to ps,
)

ticks_keeps : (w : World) (to : Option ℕ) → Keeps w (world.tick_outcome w to).world
ticks_keeps w None = itself w
ticks_keeps w (Some to) = record {
  stays = record {
    same_ids = moment_numbers to w.parts;
    as_many = refl;
    same_session_nodes = refl;
    same_plan = refl;
    more =
        [];
    events_are = sym (append_none w.directory.events);
  };
  in_time = λ all. moment_in_time to w.parts;
}

broken_keeps : (w : World) → Keeps w (record w { broken = true })
broken_keeps w = record {
  stays = record {
    same_ids = refl;
    as_many = refl;
    same_session_nodes = refl;
    same_plan = refl;
    more = [];
    events_are =
        sym (append_none w.directory.events);
  };
  in_time = λ all. all;
}

breaks_keeps : (w : World) (place : Option ℕ) (part : Option Part) → part_on w place ≡ part →
    Keeps w (world.memory_outcome w place part).world
breaks_keeps w None None here = broken_keeps w
breaks_keeps w None (Some p) here = broken_keeps w
breaks_keeps w (Some k) None here = broken_keeps w
breaks_keeps w (Some k) (Some p) here =
    let q : Part = record { node = with_act_begun p.node; life = p.life } in
    let w2 = record w { parts = slice_set w.parts k q } in
    twice w w2 (record w2 { broken = true })
    (part_set w k p q here refl (λ all alive. in_time_at w.directory.clock w.parts k p here all alive)) (broken_keeps w2)

-- Every event.

pub event_keeps : (w : World) (e : Event) → Keeps w (outcome w e).world
event_keeps w (event.Answer session) = let place = live_session_place w session in
    answer_keeps w session place (part_on w place) refl
event_keeps w (event.Act id from) = let place = live_place w id in
    takes_keeps w from place (part_on w place) (inbox_on w place) refl
event_keeps w (event.Send id) = let place = live_place w id in sends_keeps w place (part_on w place) refl
event_keeps w (event.See id) = let place = live_place w id in sees_keeps w place (part_on w place) refl
event_keeps w (event.Expire tx) = let place = live_place w tx.node in expires_keeps w tx place (part_on w place) refl
event_keeps w (event.Minor id) = let place = live_place w id in switches_keeps w place (part_on w place) refl
event_keeps w (event.Call session) = let place = live_session_place w session in
    calls_keeps w session place (part_on w place) refl
event_keeps w event.Plan = plans_keeps w (next_step w.directory)
event_keeps w event.Tick = ticks_keeps w (world.least_moment w)
event_keeps w (event.Memory id) = let place = live_place w id in breaks_keeps w place (part_on w place) refl
