-- Each possible event may come in a world in which no memory was wanting, and leaves one.
use Rattle.std.proofs.Common.{◌≡◌, ℕ, Bool, true, false, List, [], ◌∷◌, ◌++◌, Option, Some, None, map, cond, not, ◌&&◌, ◌||◌, refl, ◌∙◌}
use Rattle.std.specs.List.{list_all}
use Rattle.std.specs.Prelude.{if◌then◌else◌}
use Rattle.std.proofs.lemmas.List.Folds.{list_all-append}
use Rattle.part_model.specs.Directory.{Directory, next_step}
use Rattle.part_model.specs.Links.{Inbox, oldest_in}
use Rattle.act_rows.specs.Acts.{answer_act, may_answer, oldest_out}
use Rattle.ignite_types.specs.declared.journal.Event.{Event}
use Rattle.ignite_types.specs.declared.journal.Event.TheVariants as event
use Rattle.ignite_types.specs.declared.journal.NoLoss.{NoLoss}
use Rattle.ignite_types.specs.declared.journal.TopoEvent.{TopoEvent}
use Rattle.ignite_types.specs.declared.message.Message.{Message}
use Rattle.ignite_types.specs.declared.message.Out.{Out}
use Rattle.ignite_types.specs.declared.names.NodeId.{NodeId}
use Rattle.ignite_types.specs.declared.names.TxId.{TxId}
use Rattle.ignite_types.specs.declared.scenario.PlanStep.{PlanStep}
use Rattle.ignite_types.specs.declared.scenario.Step.{Step}
use Rattle.ignite_types.specs.declared.scenario.Step.TheVariants as step
use Rattle.ignite_types.specs.declared.scenario.Member.{Member}
use Rattle.tx_model.specs.Runs.{is_memory}
use Rattle.tx_model.specs.World.{Outcome, Part, World, act_outcome, act_outcome_from, answer_outcome, call_outcome, can_be, expire_outcome, inbox_on, inboxes_emptied, is_enabled, is_quiet, is_tick, join_outcome, least_moment, live_place, live_session_place, loss_outcome, minor_outcome, node_events, node_ids, open_txs, outcome, outcome_of_act, part_on, place_of, plan_events, plan_outcome, possible, possible_acts, possible_of, see_outcome, see_outcome_of, send_outcome, sessions, step_outcome, tick_events, tick_outcome, unchanged, unless_broken, with_delivery, with_directory, with_inbox_push, with_inbox_shut, with_link_held}

-- Which events are possible.

-- whether the event may come in a world in which no memory was wanting
abbrev pub may_be : World → Event → Bool
may_be w e = can_be w e && (not (is_tick e) || is_quiet w) && not (is_memory e)

from_both : (a b : Bool) → a ≡ true → b ≡ true → (a && b) ≡ true
from_both true b x y = y
from_both false b x y = x

-- of events of one kind, that is neither a tick nor a want of memory, each possible one may come
all_of_kind : {X : Type 0} (w : World) (kind : X → Event) (xs : List X) → ((x : X) → is_tick (kind x) ≡ false) →
    ((x : X) → is_memory (kind x) ≡ false) → list_all (may_be w) (possible_of w (map kind xs)) ≡ true
all_of_kind w kind [] no_tick no_memory = refl
all_of_kind w kind (x ∷ xs) no_tick no_memory =
    let rest : list_all (may_be w) (possible_of w (map kind xs)) ≡ true = all_of_kind w kind xs no_tick no_memory in
    elim (can_be w (kind x)) as (λ b. can_be w (kind x) ≡ b →
    list_all (may_be w) (cond b (kind x ∷ possible_of w (map kind xs)) (possible_of w (map kind xs))) ≡ true) [
      | true ↦ λ e. from_both (may_be w (kind x)) (list_all (may_be w) (possible_of w (map kind xs)))
          (rw (e, no_tick x, no_memory x) refl) rest
      | false ↦ λ e. rest
    ] refl

both_parts : (w : World) (xs ys : List Event) → list_all (may_be w) xs ≡ true → list_all (may_be w) ys ≡ true →
    list_all (may_be w) (xs ++ ys) ≡ true
both_parts w xs ys a b = list_all-append (may_be w) xs ys ∙ from_both (list_all (may_be w) xs) (list_all (may_be w) ys) a b

all_acts : (w : World) (senders nodes : List NodeId) → list_all (may_be w) (possible_acts w senders nodes) ≡ true
all_acts w senders [] = refl
all_acts w senders (id ∷ more) = both_parts w (possible_of w (map (event.Act id) senders)) (possible_acts w senders more)
    (all_of_kind w (event.Act id) senders (λ from. refl) (λ from. refl)) (all_acts w senders more)

all_node_events : (w : World) → list_all (may_be w) (node_events w) ≡ true
all_node_events w =
    let answers = possible_of w (map event.Answer (sessions w)) in
    let acts = possible_acts w (node_ids w) (node_ids w) in
    let sends = possible_of w (map event.Send (node_ids w)) in
    let seen = possible_of w (map event.See (node_ids w)) in
    let expired = possible_of w (map event.Expire (open_txs w)) in
    let minors = possible_of w (map event.Minor (node_ids w)) in
    let called = possible_of w (map event.Call (sessions w)) in
    both_parts w (answers ++ acts ++ sends ++ seen ++ expired ++ minors) called
    (both_parts w (answers ++ acts ++ sends ++ seen ++ expired) minors
    (both_parts w (answers ++ acts ++ sends ++ seen) expired
    (both_parts w (answers ++ acts ++ sends) seen
    (both_parts w (answers ++ acts) sends
    (both_parts w answers acts (all_of_kind w event.Answer (sessions w) (λ s. refl) (λ s. refl))
    (all_acts w (node_ids w) (node_ids w)))
    (all_of_kind w event.Send (node_ids w) (λ id. refl) (λ id. refl)))
    (all_of_kind w event.See (node_ids w) (λ id. refl) (λ id. refl)))
    (all_of_kind w event.Expire (open_txs w) (λ tx. refl) (λ tx. refl)))
    (all_of_kind w event.Minor (node_ids w) (λ id. refl) (λ id. refl)))
    (all_of_kind w event.Call (sessions w) (λ s. refl) (λ s. refl))

all_ticks : (w : World) (quiet : Bool) → is_quiet w ≡ quiet → list_all (may_be w) (tick_events w quiet) ≡ true
all_ticks w false is = refl
all_ticks w true is =
    elim (can_be w event.Tick) as (λ b. can_be w event.Tick ≡ b → list_all (may_be w) (cond b (event.Tick ∷ []) []) ≡ true) [
      | true ↦ λ e. rw (e, is) refl
      | false ↦ λ e. refl
    ] refl

all_unless : (w : World) (broken : Bool) → list_all (may_be w) (unless_broken w broken) ≡ true
all_unless w true = refl
all_unless w false =
    both_parts w (node_events w ++ plan_events w) (tick_events w (is_quiet w))
    (both_parts w (node_events w) (plan_events w) (all_node_events w) (all_of_kind w (λ (x : ℕ). event.Plan) (0 ∷ [])
    (λ x. refl) (λ x. refl)))
    (all_ticks w (is_quiet w) refl)

-- each possible event may come
pub all_possible : (w : World) → list_all (may_be w) (possible w) ≡ true
all_possible w = all_unless w w.broken

and_parts3 : (a b c : Bool) → (a && b && c) ≡ true → (a ≡ true) × (b ≡ true) × (c ≡ true)
and_parts3 true true true h = (refl, refl, refl)
and_parts3 true true false h = absurd (cc h)
and_parts3 true false c h = absurd (cc h)
and_parts3 false b c h = absurd (cc h)

not_true : (b : Bool) → not b ≡ true → b ≡ false
not_true true h = absurd (cc h)
not_true false h = refl

-- an event that may come is enabled in a whole world
pub enabled_of : (w : World) (e : Event) → w.broken ≡ false → may_be w e ≡ true → is_enabled w e ≡ true
enabled_of w e whole may =
    let parts = and_parts3 (can_be w e) (not (is_tick e) || is_quiet w) (not (is_memory e)) may in
    rw (whole, parts.0, parts.1) refl

pub no_memory_of : (w : World) (e : Event) → may_be w e ≡ true → is_memory e ≡ false
no_memory_of w e may =
    let parts = and_parts3 (can_be w e) (not (is_tick e) || is_quiet w) (not (is_memory e)) may in
    not_true (is_memory e) parts.2

-- What an event leaves whole.

either_whole : (b : Bool) (x y : Outcome) (v : Bool) → x.world.broken ≡ v → y.world.broken ≡ v →
    (if b then x else y).world.broken ≡ v
either_whole true x y v p q = p
either_whole false x y v p q = q

answers_whole : (w : World) (session : ℕ) (place : Option ℕ) (p : Option Part) →
    (answer_outcome w session place p).world.broken ≡ w.broken
answers_whole w session (Some place) (Some p) =
    either_whole (may_answer p.node session) (outcome_of_act (with_directory w _) place p (answer_act p.node session))
    (unchanged w) w.broken refl refl
answers_whole w session (Some place) None = refl
answers_whole w session None p = refl

taken_whole : (w : World) (place : ℕ) (p : Part) (inbox : Inbox) (from : NodeId) (m : Option Message) →
    (act_outcome_from w place p inbox from m).world.broken ≡ w.broken
taken_whole w place p inbox from None = refl
taken_whole w place p inbox from (Some m) = refl

takes_whole : (w : World) (from : NodeId) (place : Option ℕ) (p : Option Part) (inbox : Option Inbox) →
    (act_outcome w from place p inbox).world.broken ≡ w.broken
takes_whole w from (Some place) (Some p) (Some inbox) = taken_whole w place p inbox from (oldest_in inbox from)
takes_whole w from (Some place) (Some p) None = refl
takes_whole w from (Some place) None inbox = refl
takes_whole w from None p inbox = refl

reaches_whole : (w : World) (from : NodeId) (m : Message) (place : Option ℕ) (inbox : Option Inbox) →
    (with_inbox_push w from m place inbox).broken ≡ w.broken
reaches_whole w from m (Some place) (Some inbox) = refl
reaches_whole w from m (Some place) None = refl
reaches_whole w from m None inbox = refl

delivers_whole : (w : World) (from : NodeId) (out : Option Out) → (with_delivery w from out).broken ≡ w.broken
delivers_whole w from None = refl
delivers_whole w from (Some out) = reaches_whole w from out.msg (place_of w out.to) (inbox_on w (place_of w out.to))

sends_whole : (w : World) (place : Option ℕ) (p : Option Part) → (send_outcome w place p).world.broken ≡ w.broken
sends_whole w (Some place) (Some p) = delivers_whole w p.node.me (oldest_out p.node)
sends_whole w (Some place) None = refl
sends_whole w None p = refl

seen_whole : (w : World) (place : ℕ) (p : Part) (e : Option TopoEvent) → (see_outcome_of w place p e).world.broken ≡ w.broken
seen_whole w place p None = refl
seen_whole w place p (Some e) = refl

sees_whole : (w : World) (place : Option ℕ) (p : Option Part) → (see_outcome w place p).world.broken ≡ w.broken
sees_whole w (Some place) (Some p) = seen_whole w place p _
sees_whole w (Some place) None = refl
sees_whole w None p = refl

expires_whole : (w : World) (tx : TxId) (place : Option ℕ) (p : Option Part) → (expire_outcome w tx place p).world.broken
    ≡ w.broken
expires_whole w tx (Some place) (Some p) = refl
expires_whole w tx (Some place) None = refl
expires_whole w tx None p = refl

switches_whole : (w : World) (place : Option ℕ) (p : Option Part) → (minor_outcome w place p).world.broken ≡ w.broken
switches_whole w (Some place) (Some p) = refl
switches_whole w (Some place) None = refl
switches_whole w None p = refl

calls_whole : (w : World) (session : ℕ) (place : Option ℕ) (p : Option Part) → (call_outcome w session place p).world.broken
    ≡ w.broken
calls_whole w session (Some place) (Some p) = refl
calls_whole w session (Some place) None = refl
calls_whole w session None p = refl

joins_whole : (w : World) (member : Member) (d : Directory) (place : Option ℕ) (p : Option Part) →
    (join_outcome w member d place p).world.broken ≡ w.broken
joins_whole w member d (Some place) (Some p) = refl
joins_whole w member d (Some place) None = refl
joins_whole w member d None p = refl

shut_whole : (w : World) (place : Option ℕ) (inbox : Option Inbox) → (with_inbox_shut w place inbox).broken ≡ w.broken
shut_whole w (Some place) (Some inbox) = refl
shut_whole w (Some place) None = refl
shut_whole w None inbox = refl

loses_whole : (w : World) (id : NodeId) (d : Directory) (refused : Option NoLoss) → (loss_outcome w id d refused).world.broken
    ≡ w.broken
loses_whole w id d (Some refused) = refl
loses_whole w id d None = let emptied = record w { inboxes = inboxes_emptied id w.inboxes } in
    shut_whole emptied (place_of w id) (inbox_on emptied (place_of w id))

link_whole : (w : World) (from : NodeId) (held : Bool) (place : Option ℕ) (inbox : Option Inbox) →
    (with_link_held w from held place inbox).broken ≡ w.broken
link_whole w from held (Some place) (Some inbox) = refl
link_whole w from held (Some place) None = refl
link_whole w from held None inbox = refl

step_whole : (w : World) (d : Directory) (s : Step) → (step_outcome w d s).world.broken ≡ w.broken
step_whole w d (step.Join member) = joins_whole w member d (place_of w member.node) (part_on w (place_of w member.node))
step_whole w d (step.Lose id) = loses_whole w id d _
step_whole w d (step.Hold from to) = link_whole w from true (place_of w to) (inbox_on w (place_of w to))
step_whole w d (step.Release from to) = link_whole w from false (place_of w to) (inbox_on w (place_of w to))
step_whole w d (step.Start cache) = refl
step_whole w d (step.Stop cache) = refl

plans_whole : (w : World) (s : Option PlanStep) → (plan_outcome w s).world.broken ≡ w.broken
plans_whole w None = refl
plans_whole w (Some s) = step_whole w w.directory s.step

ticks_whole : (w : World) (to : Option ℕ) → (tick_outcome w to).world.broken ≡ w.broken
ticks_whole w None = refl
ticks_whole w (Some to) = refl

-- an event that is no want of memory leaves the world as whole as it was
pub whole_after : (w : World) (e : Event) → is_memory e ≡ false → (outcome w e).world.broken ≡ w.broken
whole_after w (event.Answer session) none = answers_whole w session (live_session_place w session)
    (part_on w (live_session_place w session))
whole_after w (event.Act id from) none = takes_whole w from (live_place w id) (part_on w (live_place w id))
    (inbox_on w (live_place w id))
whole_after w (event.Send id) none = sends_whole w (live_place w id) (part_on w (live_place w id))
whole_after w (event.See id) none = sees_whole w (live_place w id) (part_on w (live_place w id))
whole_after w (event.Expire tx) none = expires_whole w tx (live_place w tx.node) (part_on w (live_place w tx.node))
whole_after w (event.Minor id) none = switches_whole w (live_place w id) (part_on w (live_place w id))
whole_after w (event.Call session) none = calls_whole w session (live_session_place w session)
    (part_on w (live_session_place w session))
whole_after w event.Plan none = plans_whole w (next_step w.directory)
whole_after w event.Tick none = ticks_whole w (least_moment w)
whole_after w (event.Memory id) none = absurd (cc none)
