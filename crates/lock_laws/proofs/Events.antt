-- Every event of a legal run goes on telling of the lock queues.
use Rattle.std.proofs.Common.{◌≡◌, ◌++◌, ℕ, zero, suc, List, [], ◌∷◌, Option, Some, None, true, false, if◌then◌else◌, slice_get, refl, subst, ◌∙◌}
use Rattle.frame_laws.proofs.Acts as acts
use Rattle.frame_laws.proofs.Extending.{append_none, append_twice}
use Rattle.act_rows.specs.Acts.{Acted, act_of_send, answer_act, call_act, expire_act, may_answer, message_act, minor_act, oldest_out, see_act, send_act, with_act_begun}
use Rattle.part_model.specs.Directory.{event_at, with_answer_given, with_event}
use Rattle.part_model.specs.Links.{Inbox, inbox_after_pop, oldest_in}
use Rattle.ignite_types.proofs.NameLaws.{same_node_itself, same_node_true}
use Rattle.ignite_types.specs.Names.{same_node}
use Rattle.ignite_types.specs.declared.journal.Rec.{Rec}
use Rattle.ignite_types.specs.declared.journal.TopoEvent.{TopoEvent}
use Rattle.ignite_types.specs.declared.message.Message.{Message}
use Rattle.ignite_types.specs.declared.message.Out.{Out}
use Rattle.ignite_types.specs.declared.names.NodeId.{NodeId}
use Rattle.ignite_types.specs.declared.names.TxId.{TxId}
use Rattle.ignite_types.specs.declared.scenario.Scenario.{Scenario}
use Rattle.journal_statements.specs.Noted.{Noted, noted_by, recs_of}
use Rattle.lock_laws.specs.Carrying.{LockInvariant, LockStepInvariant}
use Rattle.lock_laws.specs.Tracking.{ActKeepsOwnersMatch, AllOwnersMatch, AreApart, GrantsFit, OwnersMatch}
use Rattle.lock_laws.proofs.Acts.{answer_tracks, call_tracks, expire_tracks, message_tracks, minor_tracks, see_tracks, send_tracks}
use Rattle.lock_laws.proofs.Journals.{nobodys_pass, own_pass, split_pass}
use Rattle.lock_laws.proofs.Parts.{are_apart_set, first_passes, nobody_tells, set_tells}
use Rattle.node_state.specs.Node.{NodeState}
use Rattle.tx_model.specs.World as world
use Rattle.tx_model.specs.World.{Part, World, if_alive, inbox_on, is_alive, live_place, outcome_of_act, part_at, part_on, place_of, with_directory, with_inbox}
use Rattle.ignite_types.specs.declared.journal.TopoEvent.TheVariants as topo

-- the node at a place that was found for its number
pub place_me : (w : World) (id : NodeId) (k : ℕ) (p : Part) → place_of w id ≡ Some k → slice_get w.parts k ≡ Some p →
    p.node.me ≡ id
place_me w id k p first here =
    same_node_true p.node.me id (first_passes (λ (x : Part). same_node x.node.me id) w.parts k p first here)

alive_only : (place : Option ℕ) (part : Option Part) (k : ℕ) → if_alive place part ≡ Some k → place ≡ Some k
alive_only place None k live = absurd (cc)
alive_only place (Some p) k live =
    elim (is_alive p.life) as (λ b. (if b then place else None) ≡ Some k → place ≡ Some k) [
      | true ↦ λ same. same
      | false ↦ λ none. absurd (cc)
    ] live

pub live_me : (w : World) (id : NodeId) (k : ℕ) (p : Part) → live_place w id ≡ Some k → slice_get w.parts k ≡ Some p →
    p.node.me ≡ id
live_me w id k p live here = place_me w id k p (alive_only (place_of w id) (part_at w id) k live) here

pub tell_at : (noted : List Noted) (ps : List Part) (k : ℕ) (p : Part) → slice_get ps k ≡ Some p → AllOwnersMatch noted ps →
    OwnersMatch (recs_of p.node.me noted) p.node.queues
tell_at noted [] k p here all = absurd (cc)
tell_at noted (x ∷ ps) zero p here all = let is : x ≡ p = cc in
    subst (λ (y : Part). OwnersMatch (recs_of y.node.me noted) y.node.queues) is all.0
tell_at noted (x ∷ ps) (suc k) p here all = tell_at noted ps k p here all.1

module _ (s : Scenario) (noted : List Noted) where
  -- nothing is noted, and what is known does not change
  pub still : (w w2 : World) (who : Option NodeId) → w2.parts ≡ w.parts → w2.session_nodes ≡ w.session_nodes →
      w2.directory.plan ≡ w.directory.plan → LockInvariant s noted w → LockStepInvariant s noted w2 (noted_by who [])
  still w w2 who parts session_nodes plan c = record {
    carries = record {
      apart = rw parts c.apart;
      tell = rw (parts, append_none noted) c.tell;
      session_nodes = session_nodes
          ∙ c.session_nodes;
      plan = plan ∙ c.plan;
    };
    pass = refl;
  }

  -- a node acts
  acts_on : (w w1 : World) (who : NodeId) (k : ℕ) (p : Part) (act : Acted) → w1.parts ≡ w.parts →
      w1.session_nodes ≡ w.session_nodes → w1.directory.plan ≡ w.directory.plan → slice_get w.parts k ≡ Some p → p.node.me ≡ who
      → ActKeepsOwnersMatch p.node act → act.state.me ≡ p.node.me → LockInvariant s noted w →
      LockStepInvariant s noted (outcome_of_act w1 k p act).world (noted_by (Some who) act.recs)
  acts_on w w1 who k p act parts session_nodes plan here is tracks me c =
      let q : Part = record { node = act.state; life = p.life } in
      let fit : GrantsFit (recs_of p.node.me noted) act.recs =
      (tracks (recs_of p.node.me noted) (tell_at noted w.parts k p here c.tell)).1 in
      rw (← is) (record {
        carries = record {
          apart = rw parts (are_apart_set w.parts k p q here me c.apart);
          tell = rw parts (set_tells noted act.recs w.parts k p q here me c.apart c.tell
              (λ tells. (tracks (recs_of p.node.me noted) tells).0));
          session_nodes = session_nodes ∙ c.session_nodes;
          plan = plan ∙ c.plan;
        };
        pass = own_pass noted p.node.me act.recs (same_node_itself p.node.me) fit;
      })

  -- The events at a node, each with the equation that its part stands at its place.

  pub answer_goes : (w : World) (session : ℕ) (id : NodeId) (place : Option ℕ) (part : Option Part) → part_on w place ≡ part →
      ((k : ℕ) (p : Part) → place ≡ Some k → slice_get w.parts k ≡ Some p → p.node.me ≡ id) → LockInvariant s noted w
      → let o = world.answer_outcome w session place part in LockStepInvariant s noted o.world (noted_by (Some id) o.recs)
  answer_goes w session id None None here me c = still w w (Some id) refl refl refl c
  answer_goes w session id None (Some p) here me c = still w w (Some id) refl refl refl c
  answer_goes w session id (Some k) None here me c = still w w (Some id) refl refl refl c
  answer_goes w session id (Some k) (Some p) here me c =
      let w2 = with_directory w (with_answer_given w.directory) in
      elim (may_answer p.node session) as (λ b. let o =
      (if b then outcome_of_act w2 k p (answer_act p.node session) else world.unchanged w) in
      LockStepInvariant s noted o.world (noted_by (Some id) o.recs)) [
        | true ↦ acts_on w w2 id k p (answer_act p.node session) refl refl refl here (me k p refl here)
            (answer_tracks p.node session) (acts.answers p.node session).0.same_me c
        | false ↦ still w w (Some id) refl refl refl c
      ]

  take_goes : (w : World) (id : NodeId) (k : ℕ) (p : Part) (inbox : Inbox) (from : NodeId) (m : Option Message) →
      slice_get w.parts k ≡ Some p → p.node.me ≡ id → LockInvariant s noted w
      → let o = world.act_outcome_from w k p inbox from m in LockStepInvariant s noted o.world (noted_by (Some id) o.recs)
  take_goes w id k p inbox from None here me c = still w w (Some id) refl refl refl c
  take_goes w id k p inbox from (Some m) here me c =
      acts_on w (with_inbox w k (inbox_after_pop inbox from)) id k p (message_act p.node from m) refl refl refl here me
      (message_tracks p.node from m) (acts.takes p.node from m).0.same_me c

  pub takes_goes : (w : World) (id from : NodeId) (place : Option ℕ) (part : Option Part) (inbox : Option Inbox) →
      part_on w place ≡ part → ((k : ℕ) (p : Part) → place ≡ Some k → slice_get w.parts k ≡ Some p → p.node.me ≡ id) →
      LockInvariant s noted w
      → let o = world.act_outcome w from place part inbox in LockStepInvariant s noted o.world (noted_by (Some id) o.recs)
  takes_goes w id from None None inbox here me c = still w w (Some id) refl refl refl c
  takes_goes w id from None (Some p) inbox here me c = still w w (Some id) refl refl refl c
  takes_goes w id from (Some k) None inbox here me c = still w w (Some id) refl refl refl c
  takes_goes w id from (Some k) (Some p) None here me c = still w w (Some id) refl refl refl c
  takes_goes w id from (Some k) (Some p) (Some inbox) here me c = take_goes w id k p inbox from (oldest_in inbox from) here
      (me k p refl here) c

  reach_same : (w : World) (from : NodeId) (m : Message) (place : Option ℕ) (inbox : Option Inbox) →
      ((world.with_inbox_push w from m place inbox).parts ≡ w.parts)
      × ((world.with_inbox_push w from m place inbox).session_nodes ≡ w.session_nodes)
      × ((world.with_inbox_push w from m place inbox).directory.plan ≡ w.directory.plan)
  reach_same w from m None inbox = (refl, refl, refl)
  reach_same w from m (Some k) None = (refl, refl, refl)
  reach_same w from m (Some k) (Some inbox) = (refl, refl, refl)

  deliver_same : (w : World) (from : NodeId) (out : Option Out) → ((world.with_delivery w from out).parts ≡ w.parts)
      × ((world.with_delivery w from out).session_nodes ≡ w.session_nodes)
      × ((world.with_delivery w from out).directory.plan ≡ w.directory.plan)
  deliver_same w from None = (refl, refl, refl)
  deliver_same w from (Some out) = let place = place_of w out.to in reach_same w from out.msg place (inbox_on w place)

  send_me : (node : NodeState) (out : Option Out) → (act_of_send (with_act_begun node) out).state.me ≡ node.me
  send_me node None = refl
  send_me node (Some out) = refl

  pub sends_goes : (w : World) (id : NodeId) (place : Option ℕ) (part : Option Part) → part_on w place ≡ part →
      ((k : ℕ) (p : Part) → place ≡ Some k → slice_get w.parts k ≡ Some p → p.node.me ≡ id) → LockInvariant s noted w
      → let o = world.send_outcome w place part in LockStepInvariant s noted o.world (noted_by (Some id) o.recs)
  sends_goes w id None None here me c = still w w (Some id) refl refl refl c
  sends_goes w id None (Some p) here me c = still w w (Some id) refl refl refl c
  sends_goes w id (Some k) None here me c = still w w (Some id) refl refl refl c
  sends_goes w id (Some k) (Some p) here me c =
      let same = deliver_same w p.node.me (oldest_out p.node) in
      acts_on w (world.with_delivery w p.node.me (oldest_out p.node)) id k p (send_act p.node) same.0 same.1 same.2 here
      (me k p refl here) (send_tracks p.node) (send_me p.node (oldest_out p.node)) c

  see_goes : (w : World) (id : NodeId) (k : ℕ) (p : Part) (e : Option TopoEvent) → slice_get w.parts k ≡ Some p →
      p.node.me ≡ id → LockInvariant s noted w
      → let o = world.see_outcome_of w k p e in LockStepInvariant s noted o.world (noted_by (Some id) o.recs)
  see_goes w id k p None here me c = still w w (Some id) refl refl refl c
  see_goes w id k p (Some e) here me c = acts_on w w id k p (see_act p.node e) refl refl refl here me (see_tracks p.node e)
      (acts.sees p.node e).0.same_me c

  pub sees_goes : (w : World) (id : NodeId) (place : Option ℕ) (part : Option Part) → part_on w place ≡ part →
      ((k : ℕ) (p : Part) → place ≡ Some k → slice_get w.parts k ≡ Some p → p.node.me ≡ id) → LockInvariant s noted w
      → let o = world.see_outcome w place part in LockStepInvariant s noted o.world (noted_by (Some id) o.recs)
  sees_goes w id None None here me c = still w w (Some id) refl refl refl c
  sees_goes w id None (Some p) here me c = still w w (Some id) refl refl refl c
  sees_goes w id (Some k) None here me c = still w w (Some id) refl refl refl c
  sees_goes w id (Some k) (Some p) here me c = see_goes w id k p (event_at w.directory p.node.read) here (me k p refl here) c

  pub expires_goes : (w : World) (id : NodeId) (tx : TxId) (place : Option ℕ) (part : Option Part) → part_on w place ≡ part →
      ((k : ℕ) (p : Part) → place ≡ Some k → slice_get w.parts k ≡ Some p → p.node.me ≡ id) → LockInvariant s noted w
      → let o = world.expire_outcome w tx place part in LockStepInvariant s noted o.world (noted_by (Some id) o.recs)
  expires_goes w id tx None None here me c = still w w (Some id) refl refl refl c
  expires_goes w id tx None (Some p) here me c = still w w (Some id) refl refl refl c
  expires_goes w id tx (Some k) None here me c = still w w (Some id) refl refl refl c
  expires_goes w id tx (Some k) (Some p) here me c = acts_on w w id k p (expire_act p.node tx) refl refl refl here
      (me k p refl here) (expire_tracks p.node tx) (acts.expires p.node tx).0.same_me c

  pub switches_goes : (w : World) (id : NodeId) (place : Option ℕ) (part : Option Part) → part_on w place ≡ part →
      ((k : ℕ) (p : Part) → place ≡ Some k → slice_get w.parts k ≡ Some p → p.node.me ≡ id) → LockInvariant s noted w
      → let o = world.minor_outcome w place part in LockStepInvariant s noted o.world (noted_by (Some id) o.recs)
  switches_goes w id None None here me c = still w w (Some id) refl refl refl c
  switches_goes w id None (Some p) here me c = still w w (Some id) refl refl refl c
  switches_goes w id (Some k) None here me c = still w w (Some id) refl refl refl c
  switches_goes w id (Some k) (Some p) here me c = acts_on w (with_directory w (with_event w.directory topo.Minor)) id k p
      (minor_act p.node) refl refl refl here (me k p refl here) (minor_tracks p.node) (acts.switches p.node).0.same_me c

  pub calls_goes : (w : World) (session : ℕ) (id : NodeId) (place : Option ℕ) (part : Option Part) → part_on w place ≡ part →
      ((k : ℕ) (p : Part) → place ≡ Some k → slice_get w.parts k ≡ Some p → p.node.me ≡ id) → LockInvariant s noted w
      → let o = world.call_outcome w session place part in LockStepInvariant s noted o.world (noted_by (Some id) o.recs)
  calls_goes w session id None None here me c = still w w (Some id) refl refl refl c
  calls_goes w session id None (Some p) here me c = still w w (Some id) refl refl refl c
  calls_goes w session id (Some k) None here me c = still w w (Some id) refl refl refl c
  calls_goes w session id (Some k) (Some p) here me c = acts_on w w id k p (call_act p.node session) refl refl refl here
      (me k p refl here) (call_tracks p.node session) (acts.calls p.node session).0.same_me c

  -- The directory's records.

  pub nobody_goes : (w w2 : World) (rs : List Rec) → AllOwnersMatch noted w2.parts → AreApart w2.parts →
      w2.session_nodes ≡ w.session_nodes → w2.directory.plan ≡ w.directory.plan → LockInvariant s noted w →
      LockStepInvariant s noted w2 (noted_by None rs)
  nobody_goes w w2 rs tell apart session_nodes plan c = record {
    carries = record {
      apart = apart;
      tell = nobody_tells noted rs w2.parts tell;
      session_nodes = session_nodes
          ∙ c.session_nodes;
      plan = plan ∙ c.plan;
    };
    pass = nobodys_pass noted rs;
  }

-- one stretch of records behind another
pub goes_on : (s : Scenario) (noted : List Noted) (w w2 : World) (xs ys : List Noted) → LockStepInvariant s noted w xs →
    (LockInvariant s (noted ++ xs) w → LockStepInvariant s (noted ++ xs) w2 ys) → LockStepInvariant s noted w2 (xs ++ ys)
goes_on s noted w w2 xs ys first rest =
    let second = rest first.carries in
    record {
      carries = subst (λ (ns : List Noted). LockInvariant s ns w2) (append_twice noted xs ys) second.carries;
      pass = split_pass noted xs ys first.pass second.pass;
    }
