-- Events beside the plan's steps note no such step, and change no member.
use Rattle.std.proofs.Common.{◌≡◌, ◌++◌, List, [], ◌∷◌, Option, Some, None, Bool, true, false, if◌then◌else◌, ℕ, refl, ap, ◌∙◌}
use Rattle.std.specs.List.{list_all}
use Rattle.std.specs.Option.{option_and_then}
use Rattle.std.specs.Ordering.{nat_cmp}
use Rattle.std.specs.Prelude.{slice_get}
use Rattle.act_rows.specs.Acts.{act_of_send, answer_act, call_act, expire_act, may_answer, message_act, oldest_out, see_act, with_act_begun}
use Rattle.frame_laws.proofs.Acts as acts
use Rattle.frame_laws.specs.Acting.{Notes}
use Rattle.frame_laws.specs.Extending.{is_own}
use Rattle.ignite_types.specs.declared.journal.Event.{Event}
use Rattle.ignite_types.specs.declared.journal.Rec.{Rec}
use Rattle.ignite_types.specs.declared.journal.TopoEvent.{TopoEvent}
use Rattle.ignite_types.specs.declared.message.Message.{Message}
use Rattle.ignite_types.specs.declared.message.Out.{Out}
use Rattle.ignite_types.specs.declared.names.NodeId.{NodeId}
use Rattle.ignite_types.specs.declared.names.TxId.{TxId}
use Rattle.link_laws.proofs.Frames.{at_live}
use Rattle.link_laws.proofs.Journals.{first_rest}
use Rattle.ordered_table.specs.Entries.{at}
use Rattle.part_model.specs.Directory.{event_at, with_answer_given}
use Rattle.part_model.specs.Links.{Inbox, oldest_in}
use Rattle.refusal_laws.specs.RefusalFacts.{LeavesPlan, is_step_event, says_no_step}
use Rattle.tx_model.specs.World.{Part, World, act_outcome, act_outcome_from, answer_outcome, call_outcome, expire_outcome, inbox_on, least_moment, live_place, memory_outcome, minor_outcome, outcome, outcome_of_act, part_on, place_of, see_outcome, see_outcome_of, send_outcome, tick_outcome, unchanged, with_delivery, with_inbox_push}
use Rattle.ignite_types.specs.declared.journal.Event.TheVariants as event
use Rattle.ignite_types.specs.declared.journal.Rec.TheVariants as note

own_one : (r : Rec) → is_own r ≡ true → says_no_step r ≡ true
own_one (note.Planned place refused) own = absurd (cc (own))
own_one _ own = refl

pub own_steps : (rs : List Rec) → list_all is_own rs ≡ true → list_all says_no_step rs ≡ true
own_steps [] own = refl
own_steps (r ∷ rs) own =
    let both = first_rest (is_own r) (list_all is_own rs) own in
    rw (own_one r both.0) (own_steps rs both.1)

both_steps : (xs ys : List Rec) → list_all says_no_step xs ≡ true → list_all says_no_step ys ≡ true →
    list_all says_no_step (xs ++ ys) ≡ true
both_steps [] ys first second = second
both_steps (x ∷ xs) ys first second =
    let both = first_rest (says_no_step x) (list_all says_no_step xs) first in
    rw both.0 (both_steps xs ys both.1 second)

-- what an act notes
pub act_steps : (recs before after : List Rec) → Notes recs before after → list_all says_no_step before ≡ true →
    list_all says_no_step after ≡ true → list_all says_no_step recs ≡ true
act_steps recs before after n first last =
    ap (list_all says_no_step) n.recs_are
    ∙ both_steps before (n.first ++ (after ++ n.last)) first
    (both_steps n.first (after ++ n.last) (own_steps n.first n.first_own)
    (both_steps after n.last last (own_steps n.last n.last_own)))

module _ (w : World) where
  none : LeavesPlan w (unchanged w)
  none = (refl, refl)

  answer_leaves : (session : ℕ) (h : Option NodeId) → (let place = option_and_then (live_place w) h in
      LeavesPlan w (answer_outcome w session place (part_on w place)))
  answer_leaves session None = none
  answer_leaves session (Some id) = at_live w id (λ r q. LeavesPlan w (answer_outcome w session r q)) none (λ k. none)
      (λ k p place is same alive. by k p (may_answer p.node session))
    where
      by : (k : ℕ) (p : Part) → (c : Bool) →
          LeavesPlan w (if c then outcome_of_act (record w { directory = with_answer_given w.directory }) k p
          (answer_act p.node session) else unchanged w)
      by k p true = (act_steps (answer_act p.node session).recs [] [] (acts.answers p.node session).1 refl refl, refl)
      by k p false = none

  call_leaves : (session : ℕ) (h : Option NodeId) → (let place = option_and_then (live_place w) h in
      LeavesPlan w (call_outcome w session place (part_on w place)))
  call_leaves session None = none
  call_leaves session (Some id) = at_live w id (λ r q. LeavesPlan w (call_outcome w session r q)) none (λ k. none)
      (λ k p place is same alive.
      (act_steps (call_act p.node session).recs [] [] (acts.calls p.node session).1 refl refl, refl))

  take_leaves : (id from : NodeId) → LeavesPlan w (outcome w (event.Act id from))
  take_leaves id from = at_live w id (λ r q. LeavesPlan w (act_outcome w from r q (inbox_on w r))) none (λ k. none)
      (λ k p place is same alive. by k p (slice_get w.inboxes k))
    where
      taking : (k : ℕ) (p : Part) (b : Inbox) (o : Option Message) → LeavesPlan w (act_outcome_from w k p b from o)
      taking k p b None = none
      taking k p b (Some m) = (
        act_steps (message_act p.node from m).recs (note.Deliver from m ∷ []) []
            (acts.takes p.node from m).1 refl refl,
        refl,
      )

      by : (k : ℕ) (p : Part) (o : Option Inbox) → LeavesPlan w (act_outcome w from (Some k) (Some p) o)
      by k p None = none
      by k p (Some b) = taking k p b (oldest_in b from)

  send_leaves : (id : NodeId) → LeavesPlan w (outcome w (event.Send id))
  send_leaves id = at_live w id (λ r q. LeavesPlan w (send_outcome w r q)) none (λ k. none)
      (λ k p place is same alive. by k p (oldest_out p.node))
    where
      to : (k : ℕ) (p : Part) (out : Out) (r : Option ℕ) (o : Option Inbox) → LeavesPlan w
          (outcome_of_act (with_inbox_push w p.node.me out.msg r o) k p (act_of_send (with_act_begun p.node) (Some out)))
      to k p out None o = (refl, refl)
      to k p out (Some j) None = (refl, refl)
      to k p out (Some j) (Some b) = (refl, refl)

      by : (k : ℕ) (p : Part) (o : Option Out) → LeavesPlan w
          (outcome_of_act (with_delivery w p.node.me o) k p (act_of_send (with_act_begun p.node) o))
      by k p None = (refl, refl)
      by k p (Some out) = to k p out (place_of w out.to) (inbox_on w (place_of w out.to))

  see_leaves : (id : NodeId) → LeavesPlan w (outcome w (event.See id))
  see_leaves id = at_live w id (λ r q. LeavesPlan w (see_outcome w r q)) none (λ k. none) (λ k p place is same alive.
      by k p (event_at w.directory p.node.read))
    where
      by : (k : ℕ) (p : Part) (o : Option TopoEvent) → LeavesPlan w (see_outcome_of w k p o)
      by k p None = none
      by k p (Some e) = (
        act_steps (see_act p.node e).recs [] (note.See p.node.read ∷ []) (acts.sees p.node e).1 refl refl,
        refl,
      )

  expire_leaves : (tx : TxId) → LeavesPlan w (outcome w (event.Expire tx))
  expire_leaves tx = at_live w tx.node (λ r q. LeavesPlan w (expire_outcome w tx r q)) none (λ k. none)
      (λ k p place is same alive.
      (act_steps (expire_act p.node tx).recs [] [] (acts.expires p.node tx).1 refl refl, refl))

  switch_leaves : (id : NodeId) → LeavesPlan w (outcome w (event.Minor id))
  switch_leaves id = at_live w id (λ r q. LeavesPlan w (minor_outcome w r q)) none (λ k. none) (λ k p place is same alive.
      (refl, refl))

  memory_leaves : (id : NodeId) → LeavesPlan w (outcome w (event.Memory id))
  memory_leaves id = at_live w id (λ r q. LeavesPlan w (memory_outcome w r q)) (refl, refl) (λ k. (refl, refl))
      (λ k p place is same alive. (refl, refl))

  tick_leaves : (o : Option ℕ) → LeavesPlan w (tick_outcome w o)
  tick_leaves None = none
  tick_leaves (Some to) = (refl, refl)

  pub event_leaves : (e : Event) → is_step_event e ≡ false → LeavesPlan w (outcome w e)
  event_leaves (event.Answer session) other = answer_leaves session (at nat_cmp w.session_nodes session)
  event_leaves (event.Act id from) other = take_leaves id from
  event_leaves (event.Send id) other = send_leaves id
  event_leaves (event.See id) other = see_leaves id
  event_leaves (event.Expire tx) other = expire_leaves tx
  event_leaves (event.Minor id) other = switch_leaves id
  event_leaves (event.Call session) other = call_leaves session (at nat_cmp w.session_nodes session)
  event_leaves event.Plan other = absurd (cc (other))
  event_leaves event.Tick other = tick_leaves (least_moment w)
  event_leaves (event.Memory id) other = memory_leaves id
