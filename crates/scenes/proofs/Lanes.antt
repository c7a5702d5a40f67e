-- Between any two declared nodes there is a link, in every world of a run.
use Rattle.std.proofs.Common.{◌≡◌, ◌++◌, List, [], ◌∷◌, Option, Some, None, Bool, true, false, if◌then◌else◌, is_some, map, ℕ, zero, suc, refl, ap, sym, subst, ◌∙◌}
use Rattle.std.specs.Option.{option_and_then, option_map}
use Rattle.std.specs.Ordering.{nat_cmp}
use Rattle.std.specs.Prelude.{drop, slice_get, slice_set}
use Rattle.std.proofs.lemmas.Option.{slice_get-map}
use Rattle.frame_laws.proofs.Acts as acts
use Rattle.act_rows.specs.Acts.{Acted, act_of_send, answer_act, call_act, expire_act, join_act, may_answer, message_act, minor_act, oldest_out, see_act, with_act_begun}
use Rattle.act_rows.specs.Exchange.{after_learn_all}
use Rattle.part_model.specs.Directory.{Directory, at_moment, directory_after_join, event_at, next_step, refusal_of_loss, with_answer_given, with_event, with_step_done}
use Rattle.part_model.specs.Links.{Inbox, Link, inbox_after_pop, inbox_after_push, inbox_shut, link_of, oldest_in, on_link, with_hold, without_messages_of, without_messages_of_each}
use Rattle.part_model.specs.Tables.{keys_in}
use Rattle.ignite_types.proofs.NameLaws.{node_total, same_node_true}
use Rattle.ignite_types.specs.Names.{node_cmp, same_node}
use Rattle.ignite_types.specs.declared.journal.Event.{Event}
use Rattle.ignite_types.specs.declared.journal.NoLoss.{NoLoss}
use Rattle.ignite_types.specs.declared.journal.TopoEvent.{TopoEvent}
use Rattle.ignite_types.specs.declared.message.Message.{Message}
use Rattle.ignite_types.specs.declared.message.Out.{Out}
use Rattle.ignite_types.specs.declared.names.NodeId.{NodeId}
use Rattle.ignite_types.specs.declared.scenario.Member.{Member}
use Rattle.ignite_types.specs.declared.scenario.PlanStep.{PlanStep}
use Rattle.ignite_types.specs.declared.scenario.Step.{Step}
use Rattle.link_laws.proofs.Frames.{at_live}
use Rattle.link_laws.proofs.Places.{some_is}
use Rattle.ordered_table.proofs.Laws as laws
use Rattle.ordered_table.specs.Entries.{at}
use Rattle.scenes.proofs.Links.{on_link_other}
use Rattle.scenes.proofs.Learned.{learned_me}
use Rattle.scenes.proofs.Parts.{mapped_place, same_numbers, same_place}
use Rattle.scenes.proofs.Worlds.{loss_me, moment_me}
use Rattle.tx_model.specs.World.{Part, World, act_outcome, act_outcome_from, answer_outcome, best_map_without, call_outcome, expire_outcome, inbox_on, inboxes_emptied, join_outcome, least_moment, live_place, loss_outcome, memory_outcome, minor_outcome, outcome, outcome_of_act, part_after_loss, part_at_moment, part_on, place_of, plan_outcome, plan_outcome_with, see_outcome, see_outcome_of, send_outcome, step_outcome, tick_outcome, unchanged, with_delivery, with_directory, with_inbox_push, with_inbox_shut, with_link_held, world_after_loss}
use Rattle.ignite_types.specs.declared.journal.Event.TheVariants as event
use Rattle.ignite_types.specs.declared.scenario.Step.TheVariants as step
use Rattle.ignite_types.specs.declared.journal.TopoEvent.TheVariants as topo
use Rattle.node_state.specs.declared.life.Life.TheVariants as life

abbrev pub lane_in : Option Inbox → NodeId → Bool
lane_in None from = false
lane_in (Some b) from = is_some (link_of b from)

-- whether there is a link from the first to the second
abbrev pub lane : World → NodeId → NodeId → Bool
lane w from to = lane_in (inbox_on w (place_of w to)) from

abbrev pub Full : World → Type 0
Full w = (a b : NodeId) → is_some (place_of w a) ≡ true → is_some (place_of w b) ≡ true → lane w a b ≡ true

-- the nodes stand where they stood, with the same links between them
pub record Same (w w2 : World) : Type 0 where
  pub places : (n : NodeId) → place_of w2 n ≡ place_of w n
  pub boxes : (j : ℕ) (x : NodeId) → lane_in (slice_get w2.inboxes j) x ≡ lane_in (slice_get w.inboxes j) x

pub full_same : (w w2 : World) → Same w w2 → Full w → Full w2
full_same w w2 same full = λ a b at_a at_b.
    ap (λ r. lane_in (inbox_on w2 r) a) (same.places b) ∙ by (place_of w b) a
    ∙ full a b (ap is_some (sym (same.places a)) ∙ at_a) (ap is_some (sym (same.places b)) ∙ at_b)
  where
    by : (r : Option ℕ) (x : NodeId) → lane_in (inbox_on w2 r) x ≡ lane_in (inbox_on w r) x
    by None x = refl
    by (Some j) x = same.boxes j x

-- One link changed.

on_link_lane : (b : Inbox) (from : NodeId) (f : Link → Link) (x : NodeId) →
    is_some (link_of (on_link b from f (link_of b from)) x) ≡ is_some (link_of b x)
on_link_lane b from f x = by (same_node from x) refl
  where
    here : (r : Option Link) → link_of b from ≡ r → is_some (link_of (on_link b from f (link_of b from)) from) ≡ is_some r
    here None none = ap (λ (r : Option Link). is_some (link_of (on_link b from f r) from)) none ∙ ap is_some none
    here (Some l) some = ap (λ (r : Option Link). is_some (link_of (on_link b from f r) from)) some
        ∙ ap is_some (laws.at_put_same node_cmp node_total b.links from (f l))

    by : (c : Bool) → same_node from x ≡ c → is_some (link_of (on_link b from f (link_of b from)) x) ≡ is_some (link_of b x)
    by true same = subst (λ (y : NodeId). is_some (link_of (on_link b from f (link_of b from)) y) ≡ is_some (link_of b y))
        (same_node_true from x same) (here (link_of b from) refl)
    by false other = ap is_some (on_link_other b from f x other)

pushed_lane : (b : Inbox) (from : NodeId) (m : Message) (x : NodeId) → is_some (link_of (inbox_after_push b from m) x)
    ≡ is_some (link_of b x)
pushed_lane b from m x = by b.closed
  where
    by : (c : Bool) → is_some
        (link_of (if c then b else on_link b from (λ (l : Link). record l { messages = l.messages ++ m ∷ [] })
        (link_of b from)) x) ≡ is_some (link_of b x)
    by true = refl
    by false = on_link_lane b from (λ (l : Link). record l { messages = l.messages ++ m ∷ [] }) x

each_lane : (b : Inbox) (ks : List NodeId) (x : NodeId) → is_some (link_of (without_messages_of_each b ks) x) ≡ is_some
    (link_of b x)
each_lane b [] x = refl
each_lane b (k ∷ ks) x = each_lane (without_messages_of b k) ks x
    ∙ on_link_lane b k (λ (l : Link). record l { messages = [] }) x

set_lane : (ins : List Inbox) (k : ℕ) (b b2 : Inbox) → slice_get ins k ≡ Some b →
    ((x : NodeId) → is_some (link_of b2 x) ≡ is_some (link_of b x)) → (j : ℕ) (x : NodeId) →
    lane_in (slice_get (slice_set ins k b2) j) x ≡ lane_in (slice_get ins j) x
set_lane [] k b b2 is same j x = refl
set_lane (z ∷ zs) zero b b2 is same zero x = same x ∙ ap (λ (y : Inbox). is_some (link_of y x)) (sym (some_is z b is))
set_lane (z ∷ zs) zero b b2 is same (suc j) x = refl
set_lane (z ∷ zs) (suc k) b b2 is same zero x = refl
set_lane (z ∷ zs) (suc k) b b2 is same (suc j) x = set_lane zs k b b2 is same j x

emptied_lane : (w : World) (id : NodeId) (j : ℕ) (x : NodeId) → lane_in (slice_get (inboxes_emptied id w.inboxes) j) x
    ≡ lane_in (slice_get w.inboxes j) x
emptied_lane w id j x = ap (λ (o : Option Inbox). lane_in o x)
    (slice_get-map (λ (b : Inbox). without_messages_of b id) w.inboxes j) ∙ by (slice_get w.inboxes j)
  where
    by : (o : Option Inbox) → lane_in (option_map (λ (b : Inbox). without_messages_of b id) o) x ≡ lane_in o x
    by None = refl
    by (Some b) = on_link_lane b id (λ (l : Link). record l { messages = [] }) x

-- Events.

same_itself : (w : World) (d : Directory) → Same w (with_directory w d)
same_itself w d = record { places = λ n. refl; boxes = λ j x. refl }

module _ (w : World) where
  -- a part changes, with these inboxes
  part_same : (ins : List Inbox) (d : Directory) (broken : Bool) (k : ℕ) (p q : Part) → slice_get w.parts k ≡ Some p →
      q.node.me ≡ p.node.me → ((j : ℕ) (x : NodeId) → lane_in (slice_get ins j) x ≡ lane_in (slice_get w.inboxes j) x)
      → Same w (record w { parts = slice_set w.parts k q; inboxes = ins; directory = d; broken = broken })
  part_same ins d broken k p q is me boxes = record {
    places = λ n. same_place w (record w { parts = slice_set w.parts k q; inboxes = ins; directory = d; broken = broken })
        (same_numbers w.parts k p q is me) n;
    boxes = boxes;
  }

  acted_same : (ins : List Inbox) (d : Directory) (k : ℕ) (p : Part) (act : Acted) → slice_get w.parts k ≡ Some p →
      act.state.me ≡ p.node.me → ((j : ℕ) (x : NodeId) → lane_in (slice_get ins j) x ≡ lane_in (slice_get w.inboxes j) x)
      → Same w (outcome_of_act (record w { inboxes = ins; directory = d }) k p act).world
  acted_same ins d k p act is me boxes = part_same ins d w.broken k p (record { node = act.state; life = p.life }) is me boxes

  there : (j : ℕ) (x : NodeId) → lane_in (slice_get w.inboxes j) x ≡ lane_in (slice_get w.inboxes j) x
  there j x = refl

  idle_same : Same w w
  idle_same = record { places = λ n. refl; boxes = λ j x. refl }

  answer_same : (session : ℕ) (h : Option NodeId) → (let place = option_and_then (live_place w) h in
      Same w (answer_outcome w session place (part_on w place)).world)
  answer_same session None = idle_same
  answer_same session (Some id) = at_live w id (λ r q. Same w (answer_outcome w session r q).world) idle_same (λ k. idle_same)
      (λ k p place is same alive. by k p is (may_answer p.node session))
    where
      by : (k : ℕ) (p : Part) → slice_get w.parts k ≡ Some p → (c : Bool) →
          Same w (if c then outcome_of_act (with_directory w (with_answer_given w.directory)) k p (answer_act p.node session)
          else unchanged w).world
      by k p is true = acted_same w.inboxes (with_answer_given w.directory) k p (answer_act p.node session) is
          (acts.answers p.node session).0.same_me there
      by k p is false = idle_same

  call_same : (session : ℕ) (h : Option NodeId) → (let place = option_and_then (live_place w) h in
      Same w (call_outcome w session place (part_on w place)).world)
  call_same session None = idle_same
  call_same session (Some id) = at_live w id (λ r q. Same w (call_outcome w session r q).world) idle_same (λ k. idle_same)
      (λ k p place is same alive. acted_same w.inboxes w.directory k p (call_act p.node session) is
      (acts.calls p.node session).0.same_me there)

  take_same : (id from : NodeId) → Same w (outcome w (event.Act id from)).world
  take_same id from = at_live w id (λ r q. Same w (act_outcome w from r q (inbox_on w r)).world) idle_same (λ k. idle_same)
      (λ k p place is same alive. by k p is (slice_get w.inboxes k) refl)
    where
      taking : (k : ℕ) (p : Part) → slice_get w.parts k ≡ Some p → (b : Inbox) → slice_get w.inboxes k ≡ Some b →
          (o : Option Message) → Same w (act_outcome_from w k p b from o).world
      taking k p is b box None = idle_same
      taking k p is b box (Some m) = acted_same (slice_set w.inboxes k (inbox_after_pop b from)) w.directory k p
          (message_act p.node from m) is (acts.takes p.node from m).0.same_me
          (set_lane w.inboxes k b (inbox_after_pop b from) box
          (on_link_lane b from (λ (l : Link). record l { messages = drop 1 l.messages })))

      by : (k : ℕ) (p : Part) → slice_get w.parts k ≡ Some p → (o : Option Inbox) → slice_get w.inboxes k ≡ o →
          Same w (act_outcome w from (Some k) (Some p) o).world
      by k p is None box = idle_same
      by k p is (Some b) box = taking k p is b box (oldest_in b from)

  send_same : (id : NodeId) → Same w (outcome w (event.Send id)).world
  send_same id = at_live w id (λ r q. Same w (send_outcome w r q).world) idle_same (λ k. idle_same)
      (λ k p place is same alive. by k p is (oldest_out p.node))
    where
      to : (k : ℕ) (p : Part) → slice_get w.parts k ≡ Some p → (out : Out) (r : Option ℕ) (o : Option Inbox) →
          inbox_on w r ≡ o → Same w (outcome_of_act (with_inbox_push w p.node.me out.msg r o) k p
          (act_of_send (with_act_begun p.node) (Some out))).world
      to k p is out None o box = acted_same w.inboxes w.directory k p (act_of_send (with_act_begun p.node) (Some out)) is refl
          there
      to k p is out (Some j) None box = acted_same w.inboxes w.directory k p (act_of_send (with_act_begun p.node) (Some out))
          is refl there
      to k p is out (Some j) (Some b) box = acted_same (slice_set w.inboxes j (inbox_after_push b p.node.me out.msg))
          w.directory k p (act_of_send (with_act_begun p.node) (Some out)) is refl
          (set_lane w.inboxes j b (inbox_after_push b p.node.me out.msg) box (pushed_lane b p.node.me out.msg))

      by : (k : ℕ) (p : Part) → slice_get w.parts k ≡ Some p → (o : Option Out) →
          Same w (outcome_of_act (with_delivery w p.node.me o) k p (act_of_send (with_act_begun p.node) o)).world
      by k p is None = acted_same w.inboxes w.directory k p (act_of_send (with_act_begun p.node) None) is refl there
      by k p is (Some out) = to k p is out (place_of w out.to) (inbox_on w (place_of w out.to)) refl

  see_same : (id : NodeId) → Same w (outcome w (event.See id)).world
  see_same id = at_live w id (λ r q. Same w (see_outcome w r q).world) idle_same (λ k. idle_same) (λ k p place is same alive.
      by k p is (event_at w.directory p.node.read))
    where
      by : (k : ℕ) (p : Part) → slice_get w.parts k ≡ Some p → (o : Option TopoEvent) → Same w (see_outcome_of w k p o).world
      by k p is None = idle_same
      by k p is (Some e) = acted_same w.inboxes w.directory k p (see_act p.node e) is (acts.sees p.node e).0.same_me there

  -- all parts change, with these inboxes
  map_same : (ins : List Inbox) (d : Directory) (f : Part → Part) → ((p : Part) → (f p).node.me ≡ p.node.me) →
      ((j : ℕ) (x : NodeId) → lane_in (slice_get ins j) x ≡ lane_in (slice_get w.inboxes j) x)
      → Same w (record w { parts = map f w.parts; inboxes = ins; directory = d })
  map_same ins d f me boxes = record { places = λ n. mapped_place w f me n; boxes = boxes }

  tick_same : (o : Option ℕ) → Same w (tick_outcome w o).world
  tick_same None = idle_same
  tick_same (Some to) = map_same w.inboxes (at_moment w.directory to) (part_at_moment to) (moment_me to) there

  loss_same : (d : Directory) (id : NodeId) (o : Option NoLoss) → Same w (loss_outcome w id d o).world
  loss_same d id (Some refused) = same_itself w (with_step_done d)
  loss_same d id None = by (place_of w id)
    where
      other : World
      other = record w { inboxes = inboxes_emptied id w.inboxes }

      on_box : (k : ℕ) (o : Option Inbox) → slice_get other.inboxes k ≡ o
          → Same w (let u = with_inbox_shut other (Some k) o in record u {
            parts = map (part_after_loss id) u.parts;
            directory = with_step_done (with_event d (topo.Left id));
          })
      on_box k None none = map_same (inboxes_emptied id w.inboxes) (with_step_done (with_event d (topo.Left id)))
          (part_after_loss id) (loss_me id) (emptied_lane w id)
      on_box k (Some b) some = map_same (slice_set other.inboxes k (inbox_shut b))
          (with_step_done (with_event d (topo.Left id))) (part_after_loss id) (loss_me id)
          (λ j x. set_lane other.inboxes k b (inbox_shut b) some (each_lane b (keys_in b.links)) j x ∙ emptied_lane w id j x)

      by : (r : Option ℕ) → Same w (record (world_after_loss w id r) {
        directory =
            with_step_done (with_event d (topo.Left id));
      })
      by None = map_same (inboxes_emptied id w.inboxes) (with_step_done (with_event d (topo.Left id))) (part_after_loss id)
          (loss_me id) (emptied_lane w id)
      by (Some k) = on_box k (slice_get other.inboxes k) refl

  join_same : (m : Member) (d : Directory) (r : Option ℕ) (q : Option Part) → part_on w r ≡ q →
      Same w (join_outcome w m d r q).world
  join_same m d None q is = same_itself w (with_step_done d)
  join_same m d (Some k) None is = same_itself w (with_step_done d)
  join_same m d (Some k) (Some p) is =
      let act = join_act p.node d.events d.clock (topo.Join m) in
      part_same w.inboxes (with_step_done (directory_after_join d m)) w.broken k p
      (record { node = act.state; life = life.Alive }) is
      ((acts.sees (after_learn_all p.node d.events d.clock) (topo.Join m)).0.same_me ∙ learned_me d.events p.node) there

  hold_same : (from : NodeId) (flag : Bool) (d : Directory) (r : Option ℕ) (o : Option Inbox) → inbox_on w r ≡ o →
      Same w (plan_outcome_with (with_link_held w from flag r o) d None []).world
  hold_same from flag d None o box = same_itself w (with_step_done d)
  hold_same from flag d (Some j) None box = same_itself w (with_step_done d)
  hold_same from flag d (Some j) (Some b) box =
      record {
        places = λ n. refl;
        boxes = set_lane w.inboxes j b (with_hold b from flag) box
            (on_link_lane b from (λ (l : Link). record l { held = flag }));
      }

  step_same : (st : Step) → Same w (step_outcome w w.directory st).world
  step_same (step.Join m) = join_same m w.directory (place_of w m.node) (part_on w (place_of w m.node)) refl
  step_same (step.Lose id) = loss_same w.directory id (refusal_of_loss w.directory id (best_map_without w id))
  step_same (step.Hold a b) = hold_same a true w.directory (place_of w b) (inbox_on w (place_of w b)) refl
  step_same (step.Release a b) = hold_same a false w.directory (place_of w b) (inbox_on w (place_of w b)) refl
  step_same (step.Start cache) = same_itself w (with_step_done (with_event w.directory (topo.Start cache)))
  step_same (step.Stop cache) = same_itself w (with_step_done (with_event w.directory (topo.Stop cache)))

  plan_same : (o : Option PlanStep) → Same w (plan_outcome w o).world
  plan_same None = idle_same
  plan_same (Some x) = step_same x.step

  memory_same : (id : NodeId) → Same w (outcome w (event.Memory id)).world
  memory_same id = at_live w id (λ r q. Same w (memory_outcome w r q).world) nowhere (λ k. nowhere)
      (λ k p place is same alive. part_same w.inboxes w.directory true k p
      (record { node = with_act_begun p.node; life = p.life }) is refl there)
    where
      nowhere : Same w (record w { broken = true })
      nowhere = record { places = λ n. refl; boxes = λ j x. refl }

  pub event_same : (e : Event) → Same w (outcome w e).world
  event_same (event.Answer session) = answer_same session (at nat_cmp w.session_nodes session)
  event_same (event.Act id from) = take_same id from
  event_same (event.Send id) = send_same id
  event_same (event.See id) = see_same id
  event_same (event.Expire tx) = at_live w tx.node (λ r q. Same w (expire_outcome w tx r q).world) idle_same (λ k. idle_same)
      (λ k p place is same alive. acted_same w.inboxes w.directory k p (expire_act p.node tx) is
      (acts.expires p.node tx).0.same_me there)
  event_same (event.Minor id) = at_live w id (λ r q. Same w (minor_outcome w r q).world) idle_same (λ k. idle_same)
      (λ k p place is same alive. acted_same w.inboxes (with_event w.directory topo.Minor) k p (minor_act p.node) is refl there)
  event_same (event.Call session) = call_same session (at nat_cmp w.session_nodes session)
  event_same event.Plan = plan_same (next_step w.directory)
  event_same event.Tick = tick_same (least_moment w)
  event_same (event.Memory id) = memory_same id
