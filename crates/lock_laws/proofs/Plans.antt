-- Plan steps, the clock and want of memory touch no lock queue.
use Rattle.std.proofs.Common.{◌≡◌, ◌++◌, ℕ, zero, suc, List, [], ◌∷◌, Option, Some, None, Bool, true, false, if◌then◌else◌, fold, slice_get, slice_set, refl, ap, sym, subst, ◌∙◌}
use Rattle.frame_laws.proofs.Acts as acts
use Rattle.act_rows.specs.Acts.{join_act, with_act_begun}
use Rattle.act_rows.specs.Exchange.{after_learn, after_learn_all, without_single}
use Rattle.part_model.specs.Directory.{Directory, next_step, refusal_of_loss, with_event}
use Rattle.part_model.specs.Links.{Inbox}
use Rattle.ignite_types.proofs.NameLaws.{same_node_itself}
use Rattle.ignite_types.specs.Names.{same_node}
use Rattle.ignite_types.specs.declared.journal.NoLoss.{NoLoss}
use Rattle.ignite_types.specs.declared.journal.TopoEvent.{TopoEvent}
use Rattle.ignite_types.specs.declared.names.NodeId.{NodeId}
use Rattle.ignite_types.specs.declared.scenario.Member.{Member}
use Rattle.ignite_types.specs.declared.scenario.PlanStep.{PlanStep}
use Rattle.ignite_types.specs.declared.scenario.Scenario.{Scenario}
use Rattle.ignite_types.specs.declared.scenario.Step.{Step}
use Rattle.journal_statements.specs.Noted.{Noted, joiner_at, joiner_in, noted_by, noted_in_plan, recs_of}
use Rattle.lock_laws.specs.Carrying.{LockInvariant, LockStepInvariant}
use Rattle.lock_laws.specs.Tracking.{AllOwnersMatch, OwnersMatch}
use Rattle.lock_laws.proofs.Acts.{join_tracks}
use Rattle.lock_laws.proofs.Events.{goes_on, nobody_goes, place_me, still, tell_at}
use Rattle.lock_laws.proofs.Journals.{own_pass}
use Rattle.lock_laws.proofs.Parts.{are_apart_map, are_apart_set, lockless_all, map_tells, set_tells}
use Rattle.node_state.specs.Node.{NodeState}
use Rattle.tx_model.specs.World as world
use Rattle.tx_model.specs.World.{Part, World, inbox_on, is_alive, part_on, place_of, plan_outcome_with}
use Rattle.ignite_types.specs.declared.journal.Rec.TheVariants as note
use Rattle.ignite_types.specs.declared.journal.TopoEvent.TheVariants as topo
use Rattle.ignite_types.specs.declared.scenario.Step.TheVariants as step
use Rattle.node_state.specs.declared.life.Life.TheVariants as life

-- a part whose number and queues stay
set_same : (noted : List Noted) (ps : List Part) (k : ℕ) (p q : Part) → slice_get ps k ≡ Some p → q.node.me ≡ p.node.me →
    q.node.queues ≡ p.node.queues → AllOwnersMatch noted ps → AllOwnersMatch noted (slice_set ps k q)
set_same noted [] k p q here me queues all = tt
set_same noted (x ∷ ps) zero p q here me queues all =
    let is : x ≡ p = cc in
    (rw (me, queues) (subst (λ (y : Part). OwnersMatch (recs_of y.node.me noted) y.node.queues) is all.0), all.1)
set_same noted (x ∷ ps) (suc k) p q here me queues all = (all.0, set_same noted ps k p q here me queues all.1)

-- a loss
loss_me : (id : NodeId) (p : Part) → (world.part_after_loss id p).node.me ≡ p.node.me
loss_me id p =
    elim (same_node p.node.me id) as (λ b.
    (if b then record { node = p.node; life = life.Gone } else if is_alive p.life then record {
      node =
          without_single p.node id;
      life = p.life;
    } else p).node.me ≡ p.node.me) [
      | true ↦ refl
      | false ↦ elim (is_alive p.life) as (λ b.
          (if b then record { node = without_single p.node id; life = p.life } else p).node.me ≡ p.node.me) [
            | true ↦
                refl
            | false ↦ refl
          ]
    ]

loss_queues : (id : NodeId) (p : Part) → (world.part_after_loss id p).node.queues ≡ p.node.queues
loss_queues id p =
    elim (same_node p.node.me id) as (λ b.
    (if b then record { node = p.node; life = life.Gone } else if is_alive p.life then record {
      node =
          without_single p.node id;
      life = p.life;
    } else p).node.queues ≡ p.node.queues) [
      | true ↦ refl
      | false ↦ elim (is_alive p.life) as (λ b.
          (if b then record { node = without_single p.node id; life = p.life } else p).node.queues ≡ p.node.queues) [
            | true ↦
                refl
            | false ↦ refl
          ]
    ]

-- the clock
moment_me : (to : ℕ) (p : Part) → (world.part_at_moment to p).node.me ≡ p.node.me
moment_me to p = elim (is_alive p.life) as (λ b.
    (if b then record { node = record p.node { now = to }; life = p.life } else p).node.me ≡ p.node.me) [
      | true ↦
          refl
      | false ↦ refl
    ]

moment_queues : (to : ℕ) (p : Part) → (world.part_at_moment to p).node.queues ≡ p.node.queues
moment_queues to p = elim (is_alive p.life) as (λ b.
    (if b then record { node = record p.node { now = to }; life = p.life } else p).node.queues ≡ p.node.queues) [
      | true ↦
          refl
      | false ↦ refl
    ]

learn_me : (s : NodeState) (es : List TopoEvent) → (fold after_learn s es).me ≡ s.me
learn_me s [] = refl
learn_me s (e ∷ es) = learn_me (after_learn s e) es

shut_same : (w : World) (place : Option ℕ) (inbox : Option Inbox) → ((world.with_inbox_shut w place inbox).parts ≡ w.parts)
    × ((world.with_inbox_shut w place inbox).session_nodes ≡ w.session_nodes)
shut_same w None inbox = (refl, refl)
shut_same w (Some k) None = (refl, refl)
shut_same w (Some k) (Some inbox) = (refl, refl)

hold_same : (w : World) (from : NodeId) (held : Bool) (place : Option ℕ) (inbox : Option Inbox) →
    ((world.with_link_held w from held place inbox).parts ≡ w.parts)
    × ((world.with_link_held w from held place inbox).session_nodes ≡ w.session_nodes)
hold_same w from held None inbox = (refl, refl)
hold_same w from held (Some k) None = (refl, refl)
hold_same w from held (Some k) (Some inbox) = (refl, refl)

module _ (s : Scenario) (noted : List Noted) where
  -- a plan step that no node notes anything of
  done_goes : (w w2 : World) (d : Directory) (refused : Option NoLoss) → w2.parts ≡ w.parts →
      w2.session_nodes ≡ w.session_nodes → d.plan ≡ w.directory.plan → LockInvariant s noted w →
      LockStepInvariant s noted (plan_outcome_with w2 d refused []).world
      (noted_in_plan s (plan_outcome_with w2 d refused []).recs)
  done_goes w w2 d refused parts session_nodes plan c =
      nobody_goes s noted w (plan_outcome_with w2 d refused []).world (note.Planned d.done refused ∷ []) (rw parts c.tell)
      (rw parts c.apart) session_nodes plan c

  -- a node joins
  join_part : (w : World) (member : Member) (k : ℕ) (p : Part) → slice_get w.parts k ≡ Some p → p.node.me ≡ member.node →
      joiner_in (slice_get s.plan w.directory.done) ≡ Some member.node → LockInvariant s noted w
      → let o = world.join_outcome w member w.directory (Some k) (Some p) in
      LockStepInvariant s noted o.world (noted_in_plan s o.recs)
  join_part w member k p here me joiner c =
      let d = w.directory in
      let own = topo.Join member in
      let act = join_act p.node d.events d.clock own in
      let q : Part = record { node = act.state; life = life.Alive } in
      let same : q.node.me ≡ p.node.me = (acts.sees (after_learn_all p.node d.events d.clock) own).0.same_me
      ∙ learn_me p.node d.events in
      let tracks = join_tracks p.node d.events d.clock own in
      let n : List Noted = noted_by None (note.Planned d.done None ∷ []) in
      let who : joiner_in (slice_get s.plan d.done) ≡ Some p.node.me = joiner ∙ ap Some (sym me) in
      let after = (world.join_outcome w member d (Some k) (Some p)).world in
      rw who
      (goes_on s noted w after n (noted_by (Some p.node.me) act.recs)
      (nobody_goes s noted w w (note.Planned d.done None ∷ []) c.tell c.apart refl refl c)
      (λ c2. record {
        carries = record {
          apart = are_apart_set w.parts k p q here same c2.apart;
          tell = set_tells (noted ++ n) act.recs w.parts k p q here same c2.apart c2.tell
              (λ tells. (tracks (recs_of p.node.me (noted ++ n)) tells).0);
          session_nodes = c2.session_nodes;
          plan = c2.plan;
        };
        pass = own_pass (noted ++ n) p.node.me act.recs (same_node_itself p.node.me)
            (tracks (recs_of p.node.me (noted ++ n)) (tell_at (noted ++ n) w.parts k p here c2.tell)).1;
      }))

  join_goes : (w : World) (member : Member) (place : Option ℕ) (part : Option Part) → part_on w place ≡ part →
      place_of w member.node ≡ place → joiner_in (slice_get s.plan w.directory.done) ≡ Some member.node →
      LockInvariant s noted w
      → let o = world.join_outcome w member w.directory place part in LockStepInvariant s noted o.world (noted_in_plan s o.recs)
  join_goes w member None None here first joiner c = done_goes w w w.directory None refl refl refl c
  join_goes w member None (Some p) here first joiner c = done_goes w w w.directory None refl refl refl c
  join_goes w member (Some k) None here first joiner c = done_goes w w w.directory None refl refl refl c
  join_goes w member (Some k) (Some p) here first joiner c =
      join_part w member k p here (place_me w member.node k p first here) joiner c

  loss_goes : (w : World) (id : NodeId) (refused : Option NoLoss) → joiner_in (slice_get s.plan w.directory.done) ≡ None →
      LockInvariant s noted w
      → let o = world.loss_outcome w id w.directory refused in LockStepInvariant s noted o.world (noted_in_plan s o.recs)
  loss_goes w id (Some why) joiner c = done_goes w w w.directory (Some why) refl refl refl c
  loss_goes w id None joiner c =
      let place = place_of w id in
      let emptied = record w { inboxes = world.inboxes_emptied id w.inboxes } in
      let same = shut_same emptied place (inbox_on emptied place) in
      let f = world.part_after_loss id in
      rw joiner
      (nobody_goes s noted w (world.loss_outcome w id w.directory None).world
      (note.Planned w.directory.done None ∷ note.Lost id ∷ [])
      (rw same.0 (map_tells f (loss_me id) (loss_queues id) noted w.parts c.tell))
      (rw same.0 (are_apart_map f (loss_me id) (loss_queues id) w.parts c.apart)) same.1 refl c)

  link_goes : (w : World) (from to : NodeId) (held : Bool) → LockInvariant s noted w → let o =
      plan_outcome_with (world.with_hold_between w from to held) w.directory None [] in
      LockStepInvariant s noted o.world (noted_in_plan s o.recs)
  link_goes w from to held c =
      let place = place_of w to in
      let same = hold_same w from held place (inbox_on w place) in
      done_goes w (world.with_hold_between w from to held) w.directory None same.0 same.1 refl c

  step_goes : (w : World) (st : Step) → joiner_in (slice_get s.plan w.directory.done) ≡ joiner_at st →
      LockInvariant s noted w → let o = world.step_outcome w w.directory st in
      LockStepInvariant s noted o.world (noted_in_plan s o.recs)
  step_goes w (step.Join member) joiner c = let place = place_of w member.node in
      join_goes w member place (part_on w place) refl refl joiner c
  step_goes w (step.Lose id) joiner c = loss_goes w id (refusal_of_loss w.directory id (world.best_map_without w id)) joiner c
  step_goes w (step.Hold from to) joiner c = link_goes w from to true c
  step_goes w (step.Release from to) joiner c = link_goes w from to false c
  step_goes w (step.Start cache) joiner c = done_goes w w (with_event w.directory (topo.Start cache)) None refl refl refl c
  step_goes w (step.Stop cache) joiner c = done_goes w w (with_event w.directory (topo.Stop cache)) None refl refl refl c

  pub plan_goes : (w : World) (next : Option PlanStep) → next_step w.directory ≡ next → LockInvariant s noted w → let o =
      world.plan_outcome w next in LockStepInvariant s noted o.world (noted_in_plan s o.recs)
  plan_goes w None here c = still s noted w w None refl refl refl c
  plan_goes w (Some st) here c =
      step_goes w st.step (ap (λ (plan : List PlanStep). joiner_in (slice_get plan w.directory.done)) (sym c.plan)
      ∙ ap joiner_in here) c

  pub tick_goes : (w : World) (to : Option ℕ) → LockInvariant s noted w → let o = world.tick_outcome w to in
      LockStepInvariant s noted o.world (noted_by None o.recs)
  tick_goes w None c = still s noted w w None refl refl refl c
  tick_goes w (Some to) c =
      let f = world.part_at_moment to in
      nobody_goes s noted w (world.tick_outcome w (Some to)).world (note.Tick to ∷ [])
      (map_tells f (moment_me to) (moment_queues to) noted w.parts c.tell)
      (are_apart_map f (moment_me to) (moment_queues to) w.parts c.apart) refl refl c

  memory_same : (w w2 : World) (id : NodeId) → w2.parts ≡ w.parts → w2.session_nodes ≡ w.session_nodes →
      w2.directory.plan ≡ w.directory.plan → LockInvariant s noted w →
      LockStepInvariant s noted w2 (noted_by (Some id) (note.Memory ∷ []))
  memory_same w w2 id parts session_nodes plan c = record {
    carries = record {
      apart = rw parts c.apart;
      tell =
          rw parts (lockless_all noted (Some id) note.Memory w.parts refl c.tell);
      session_nodes = session_nodes
          ∙ c.session_nodes;
      plan = plan ∙ c.plan;
    };
    pass = own_pass noted id (note.Memory ∷ []) (same_node_itself id) (tt, tt);
  }

  pub memory_goes : (w : World) (id : NodeId) (place : Option ℕ) (part : Option Part) → part_on w place ≡ part →
      LockInvariant s noted w → let o = world.memory_outcome w place part in
      LockStepInvariant s noted o.world (noted_by (Some id) o.recs)
  memory_goes w id None None here c = memory_same w (world.memory_outcome w None None).world id refl refl refl c
  memory_goes w id None (Some p) here c = memory_same w (world.memory_outcome w None (Some p)).world id refl refl refl c
  memory_goes w id (Some k) None here c = memory_same w (world.memory_outcome w (Some k) None).world id refl refl refl c
  memory_goes w id (Some k) (Some p) here c =
      let q : Part = record { node = with_act_begun p.node; life = p.life } in
      record {
        carries = record {
          apart = are_apart_set w.parts k p q here refl c.apart;
          tell = set_same (noted ++ noted_by (Some id) (note.Memory ∷ [])) w.parts k p q here refl refl
              (lockless_all noted (Some id) note.Memory w.parts refl c.tell);
          session_nodes = c.session_nodes;
          plan = c.plan;
        };
        pass = own_pass noted id (note.Memory ∷ []) (same_node_itself id) (tt, tt);
      }
