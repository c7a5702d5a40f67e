-- The machine of the whole world: which events are possible, in their order, and what each does to its parts.
use Rattle.std.specs.List.{list_all}
use Rattle.std.specs.Option.{option_and_then, option_map}
use Rattle.std.specs.Ordering.{nat_cmp}
use Rattle.std.specs.Prelude.{Bool, None, Option, Some, [], false, filter, if◌then◌else◌, is_some, length, map, nat_eq, not, position, slice_get, slice_set, true, ℕ, ◌&&◌, ◌++◌, ◌||◌, ◌∷◌}
use Rattle.act_rows.specs.Acts.{Acted, answer_act, call_act, expire_act, join_act, may_answer, may_call, may_send, message_act, minor_act, oldest_out, see_act, send_act, with_act_begun}
use Rattle.act_rows.specs.Commands.{is_over_or_absent}
use Rattle.act_rows.specs.Exchange.{without_single}
use Rattle.act_rows.specs.Filling.{may_switch}
use Rattle.act_rows.specs.Searches.{is_overdue, next_moment, sooner_moment, soonest_moment}
use Rattle.act_rows.specs.Steps.{session_state_of}
use Rattle.part_model.specs.Directory.{Directory, at_moment, directory_after_join, event_at, next_step, refusal_of_loss, step_due, with_answer_given, with_event, with_step_done}
use Rattle.part_model.specs.Links.{Inbox, inbox_after_pop, inbox_after_push, inbox_shut, is_held, oldest_in, with_hold, without_messages_of}
use Rattle.part_model.specs.NextMap.{newer_map}
use Rattle.ignite_types.specs.Names.{same_node, same_top}
use Rattle.ignite_types.specs.declared.journal.Event.{Event}
use Rattle.ignite_types.specs.declared.journal.NoLoss.{NoLoss}
use Rattle.ignite_types.specs.declared.journal.Rec.{Rec}
use Rattle.ignite_types.specs.declared.journal.TopoEvent.{TopoEvent}
use Rattle.ignite_types.specs.declared.list.List.{List}
use Rattle.ignite_types.specs.declared.message.Message.{Message}
use Rattle.ignite_types.specs.declared.message.Out.{Out}
use Rattle.ignite_types.specs.declared.names.NodeId.{NodeId}
use Rattle.ignite_types.specs.declared.names.TxId.{TxId}
use Rattle.ignite_types.specs.declared.placement.PartMap.{PartMap}
use Rattle.ignite_types.specs.declared.scenario.Member.{Member}
use Rattle.ignite_types.specs.declared.scenario.PlanStep.{PlanStep}
use Rattle.ignite_types.specs.declared.scenario.Step.{Step}
use Rattle.node_state.specs.declared.life.Life.{Life}
use Rattle.node_state.specs.Node.{NodeState}
use Rattle.node_state.specs.declared.session.SessionState.{SessionState}
use Rattle.ordered_table.specs.Entries.{at}
use Rattle.ignite_types.specs.declared.journal.Event.TheVariants as event
use Rattle.node_state.specs.declared.life.Life.TheVariants as life
use Rattle.ignite_types.specs.declared.journal.Rec.TheVariants as note
use Rattle.ignite_types.specs.declared.scenario.Step.TheVariants as step
use Rattle.ignite_types.specs.declared.journal.TopoEvent.TheVariants as topo

-- a declared node
pub record Part : Type 0 where
  pub node : NodeState
  pub life : Life

-- the world: the directory, its declared nodes by number, the inbox of each in the same order, and each session's node
pub record World : Type 0 where
  pub directory : Directory
  pub parts : List Part
  pub inboxes : List Inbox
  pub session_nodes : List (ℕ × NodeId)
  pub broken : Bool

-- an event's outcome: the world after it, and what it noted
pub record Outcome : Type 0 where
  pub world : World
  pub recs : List Rec

abbrev pub unchanged : World → Outcome
unchanged w = record { world = w; recs = [] }

abbrev pub is_alive : Life → Bool
is_alive life.Alive = true
is_alive _ = false

abbrev pub is_alive_part : Part → Bool
is_alive_part p = is_alive p.life

abbrev pub place_of : World → NodeId → Option ℕ
place_of w id = position (λ (p : Part). same_node p.node.me id) w.parts

-- what is at this place
abbrev pub part_on : World → Option ℕ → Option Part
part_on w place = option_and_then (slice_get w.parts) place

abbrev pub inbox_on : World → Option ℕ → Option Inbox
inbox_on w place = option_and_then (slice_get w.inboxes) place

abbrev pub part_at : World → NodeId → Option Part
part_at w id = part_on w (place_of w id)

abbrev pub if_alive : Option ℕ → Option Part → Option ℕ
if_alive place None = None
if_alive place (Some p) = if is_alive p.life then place else None

-- the place of the node, where it is alive
abbrev pub live_place : World → NodeId → Option ℕ
live_place w id = if_alive (place_of w id) (part_at w id)

abbrev pub state_of_part : Option Part → Option NodeState
state_of_part part = option_map (λ (p : Part). p.node) part

-- the node, where it is alive
abbrev pub node_at : World → NodeId → Option NodeState
node_at w id = state_of_part (part_on w (live_place w id))

abbrev pub session_node : World → ℕ → Option NodeId
session_node w session = at nat_cmp w.session_nodes session

-- the place of the session's node, where it is alive
abbrev pub live_session_place : World → ℕ → Option ℕ
live_session_place w session = option_and_then (live_place w) (session_node w session)

-- the session's node, where it is alive
abbrev pub session_node_at : World → ℕ → Option NodeState
session_node_at w session = state_of_part (part_on w (live_session_place w session))

-- Changing one part.

-- the node at this place has acted
abbrev pub outcome_of_act : World → ℕ → Part → Acted → Outcome
outcome_of_act w place p act = record {
  world = record w { parts = slice_set w.parts place (record { node = act.state; life = p.life }) };
  recs = act.recs;
}

abbrev pub with_directory : World → Directory → World
with_directory w d = record w { directory = d }

abbrev pub with_inbox : World → ℕ → Inbox → World
with_inbox w place inbox = record w { inboxes = slice_set w.inboxes place inbox }

-- The events at a node.

abbrev pub answer_outcome : World → ℕ → Option ℕ → Option Part → Outcome
answer_outcome w session (Some place) (Some p) = if may_answer p.node session
    then outcome_of_act (with_directory w (with_answer_given w.directory)) place p (answer_act p.node session)
    else unchanged w
answer_outcome w session _ _ = unchanged w

abbrev pub act_outcome_from : World → ℕ → Part → Inbox → NodeId → Option Message → Outcome
act_outcome_from w place p inbox from None = unchanged w
act_outcome_from w place p inbox from (Some m) =
    outcome_of_act (with_inbox w place (inbox_after_pop inbox from)) place p (message_act p.node from m)

abbrev pub act_outcome : World → NodeId → Option ℕ → Option Part → Option Inbox → Outcome
act_outcome w from (Some place) (Some p) (Some inbox) = act_outcome_from w place p inbox from (oldest_in inbox from)
act_outcome w from _ _ _ = unchanged w

-- a message goes into the inbox at this place
abbrev pub with_inbox_push : World → NodeId → Message → Option ℕ → Option Inbox → World
with_inbox_push w from m (Some place) (Some inbox) = with_inbox w place (inbox_after_push inbox from m)
with_inbox_push w from m _ _ = w

abbrev pub with_delivery : World → NodeId → Option Out → World
with_delivery w from None = w
with_delivery w from (Some out) = let place = place_of w out.to in with_inbox_push w from out.msg place (inbox_on w place)

abbrev pub send_outcome : World → Option ℕ → Option Part → Outcome
send_outcome w (Some place) (Some p) =
    outcome_of_act (with_delivery w p.node.me (oldest_out p.node)) place p (send_act p.node)
send_outcome w _ _ = unchanged w

abbrev pub see_outcome_of : World → ℕ → Part → Option TopoEvent → Outcome
see_outcome_of w place p None = unchanged w
see_outcome_of w place p (Some event) = outcome_of_act w place p (see_act p.node event)

abbrev pub see_outcome : World → Option ℕ → Option Part → Outcome
see_outcome w (Some place) (Some p) = see_outcome_of w place p (event_at w.directory p.node.read)
see_outcome w _ _ = unchanged w

abbrev pub expire_outcome : World → TxId → Option ℕ → Option Part → Outcome
expire_outcome w tx (Some place) (Some p) = outcome_of_act w place p (expire_act p.node tx)
expire_outcome w tx _ _ = unchanged w

abbrev pub minor_outcome : World → Option ℕ → Option Part → Outcome
minor_outcome w (Some place) (Some p) =
    outcome_of_act (with_directory w (with_event w.directory topo.Minor)) place p (minor_act p.node)
minor_outcome w _ _ = unchanged w

abbrev pub call_outcome : World → ℕ → Option ℕ → Option Part → Outcome
call_outcome w session (Some place) (Some p) = outcome_of_act w place p (call_act p.node session)
call_outcome w session _ _ = unchanged w

-- The plan.

-- the plan step at hand is done or refused
abbrev pub plan_outcome_with : World → Directory → Option NoLoss → List Rec → Outcome
plan_outcome_with w d refused recs =
    record { world = with_directory w (with_step_done d); recs = note.Planned d.done refused ∷ recs }

abbrev pub join_outcome_at : World → ℕ → Member → Directory → NodeState → Outcome
join_outcome_at w place member d node = let act = join_act node d.events d.clock (topo.Join member) in
    plan_outcome_with (record w { parts = slice_set w.parts place (record { node = act.state; life = life.Alive }) })
    (directory_after_join d member) None act.recs

abbrev pub join_outcome : World → Member → Directory → Option ℕ → Option Part → Outcome
join_outcome w member d (Some place) (Some p) = join_outcome_at w place member d p.node
join_outcome w member d _ _ = plan_outcome_with w d None []

abbrev pub outlives : NodeId → Part → Bool
outlives id p = if is_alive p.life then not (same_node p.node.me id) else false

-- the higher one of this map and of those installed at these parts, the one of this node left out
abbrev pub best_map_from : NodeId → Option PartMap → List Part → Option PartMap
best_map_from id best [] = best
best_map_from id best (p ∷ ps) = best_map_from id (if outlives id p then newer_map best p.node.installed else best) ps

-- the highest map installed at a survivor of the loss of this node
abbrev pub best_map_without : World → NodeId → Option PartMap
best_map_without w id = best_map_from id None w.parts

-- a lost node keeps its state; every other one that is alive discards its Singles
abbrev pub part_after_loss : NodeId → Part → Part
part_after_loss id p = if same_node p.node.me id
    then record { node = p.node; life = life.Gone }
    else if is_alive p.life then record { node = without_single p.node id; life = p.life } else p

abbrev pub parts_after_loss : NodeId → List Part → List Part
parts_after_loss id parts = map (part_after_loss id) parts

abbrev pub inboxes_emptied : NodeId → List Inbox → List Inbox
inboxes_emptied id inboxes = map (λ (inbox : Inbox). without_messages_of inbox id) inboxes

abbrev pub with_inbox_shut : World → Option ℕ → Option Inbox → World
with_inbox_shut w (Some place) (Some inbox) = with_inbox w place (inbox_shut inbox)
with_inbox_shut w _ _ = w

-- the links of a lost node are emptied in both directions, and its inbox is closed
abbrev pub without_links : World → NodeId → Option ℕ → World
without_links w id place = let emptied = record w { inboxes = inboxes_emptied id w.inboxes } in
    with_inbox_shut emptied place (inbox_on emptied place)

abbrev pub world_after_loss : World → NodeId → Option ℕ → World
world_after_loss w id place = let other = without_links w id place in record other { parts = parts_after_loss id other.parts }

abbrev pub loss_outcome : World → NodeId → Directory → Option NoLoss → Outcome
loss_outcome w id d (Some refused) = plan_outcome_with w d (Some refused) []
loss_outcome w id d None =
    plan_outcome_with (world_after_loss w id (place_of w id)) (with_event d (topo.Left id)) None (note.Lost id ∷ [])

abbrev pub with_link_held : World → NodeId → Bool → Option ℕ → Option Inbox → World
with_link_held w from held (Some place) (Some inbox) = with_inbox w place (with_hold inbox from held)
with_link_held w from held _ _ = w

-- the link is held from now on, or goes on
abbrev pub with_hold_between : World → NodeId → NodeId → Bool → World
with_hold_between w from to held =
    let place = place_of w to in with_link_held w from held place (inbox_on w place)

abbrev pub step_outcome : World → Directory → Step → Outcome
step_outcome w d (step.Join member) = let place = place_of w member.node in join_outcome w member d place (part_on w place)
step_outcome w d (step.Lose id) = loss_outcome w id d (refusal_of_loss d id (best_map_without w id))
step_outcome w d (step.Hold from to) = plan_outcome_with (with_hold_between w from to true) d None []
step_outcome w d (step.Release from to) = plan_outcome_with (with_hold_between w from to false) d None []
step_outcome w d (step.Start cache) = plan_outcome_with w (with_event d (topo.Start cache)) None []
step_outcome w d (step.Stop cache) = plan_outcome_with w (with_event d (topo.Stop cache)) None []

abbrev pub plan_outcome : World → Option PlanStep → Outcome
plan_outcome w None = unchanged w
plan_outcome w (Some step) = step_outcome w w.directory step.step

-- The clock.

abbrev pub plan_moment : Directory → Option ℕ
plan_moment d = option_map (λ (s : PlanStep). s.moment) (next_step d)

-- the next moment of each node that is alive
abbrev pub live_moments : List Part → List (Option ℕ)
live_moments parts = map (λ (p : Part). next_moment p.node) (filter is_alive_part parts)

-- the least deadline, sleep end or plan moment after the clock
abbrev pub least_moment : World → Option ℕ
least_moment w = soonest_moment w.directory.clock (sooner_moment w.directory.clock None (plan_moment w.directory))
    (live_moments w.parts)

abbrev pub part_at_moment : ℕ → Part → Part
part_at_moment to p = if is_alive p.life then record { node = record p.node { now = to }; life = p.life } else p

abbrev pub parts_at_moment : ℕ → List Part → List Part
parts_at_moment to parts = map (part_at_moment to) parts

abbrev pub tick_outcome : World → Option ℕ → Outcome
tick_outcome w None = unchanged w
tick_outcome w (Some to) = record {
  world = record w { directory = at_moment w.directory to; parts = parts_at_moment to w.parts };
  recs = note.Tick to ∷ [];
}

-- Want of memory.

-- the node's act counts, and nothing is possible any more
abbrev pub memory_outcome : World → Option ℕ → Option Part → Outcome
memory_outcome w (Some place) (Some p) = record {
  world = record w { parts = slice_set w.parts place (record { node = with_act_begun p.node; life = p.life }); broken = true };
  recs = note.Memory ∷ [];
}
memory_outcome w _ _ = record { world = record w { broken = true }; recs = note.Memory ∷ [] }

-- what an event does
abbrev pub outcome : World → Event → Outcome
outcome w (event.Answer session) =
    let place = live_session_place w session in answer_outcome w session place (part_on w place)
outcome w (event.Act id from) = let place = live_place w id in act_outcome w from place (part_on w place) (inbox_on w place)
outcome w (event.Send id) = let place = live_place w id in send_outcome w place (part_on w place)
outcome w (event.See id) = let place = live_place w id in see_outcome w place (part_on w place)
outcome w (event.Expire tx) = let place = live_place w tx.node in expire_outcome w tx place (part_on w place)
outcome w (event.Minor id) = let place = live_place w id in minor_outcome w place (part_on w place)
outcome w (event.Call session) = let place = live_session_place w session in call_outcome w session place (part_on w place)
outcome w event.Plan = plan_outcome w (next_step w.directory)
outcome w event.Tick = tick_outcome w (least_moment w)
outcome w (event.Memory id) = let place = live_place w id in memory_outcome w place (part_on w place)

-- Which events are possible.

abbrev pub can_answer : ℕ → Option NodeState → Bool
can_answer session None = false
can_answer session (Some node) = may_answer node session

abbrev pub can_call : ℕ → Option NodeState → Bool
can_call session None = false
can_call session (Some node) = may_call node session

abbrev pub can_send : Option NodeState → Bool
can_send None = false
can_send (Some node) = may_send node

abbrev pub can_take : NodeId → Option Inbox → Bool
can_take from None = false
can_take from (Some inbox) = not (is_held inbox from) && is_some (oldest_in inbox from)

abbrev pub can_see : Directory → Option NodeState → Bool
can_see d None = false
can_see d (Some node) = is_some (event_at d node.read)

abbrev pub can_expire : TxId → Option NodeState → Bool
can_expire tx None = false
can_expire tx (Some node) = is_overdue node tx

abbrev pub can_switch : Directory → Option NodeState → Bool
can_switch d None = false
can_switch d (Some node) = may_switch node && same_top node.seen d.last

-- what can be without regard to other events
abbrev pub can_be : World → Event → Bool
can_be w (event.Answer session) = can_answer session (session_node_at w session)
can_be w (event.Act id from) = can_take from (inbox_on w (live_place w id))
can_be w (event.Send id) = can_send (node_at w id)
can_be w (event.See id) = can_see w.directory (node_at w id)
can_be w (event.Expire tx) = can_expire tx (node_at w tx.node)
can_be w (event.Minor id) = can_switch w.directory (node_at w id)
can_be w (event.Call session) = can_call session (session_node_at w session)
can_be w event.Plan = step_due w.directory
can_be w event.Tick = not (step_due w.directory) && is_some (least_moment w)
can_be w (event.Memory id) = is_some (live_place w id)

abbrev pub sessions : World → List ℕ
sessions w = map (λ (home : ℕ × NodeId). home.0) w.session_nodes

abbrev pub node_ids : World → List NodeId
node_ids w = map (λ (p : Part). p.node.me) w.parts

-- the session's transaction at its node
abbrev pub tx_of_session : ℕ → Option NodeState → Option TxId
tx_of_session session None = None
tx_of_session session (Some node) = option_and_then (λ (d : SessionState). d.tx) (session_state_of node session)

abbrev pub with_tx : Option TxId → List TxId → List TxId
with_tx None txs = txs
with_tx (Some tx) txs = tx ∷ txs

abbrev pub txs_of_sessions : World → List ℕ → List TxId
txs_of_sessions w [] = []
txs_of_sessions w (session ∷ more) = with_tx (tx_of_session session (session_node_at w session)) (txs_of_sessions w more)

-- the transactions of all sessions, by session
abbrev pub open_txs : World → List TxId
open_txs w = txs_of_sessions w (sessions w)

-- those of these events that are possible
abbrev pub possible_of : World → List Event → List Event
possible_of w events = filter (can_be w) events

-- the messages that these nodes can take, each from these senders
abbrev pub possible_acts : World → List NodeId → List NodeId → List Event
possible_acts w senders [] = []
possible_acts w senders (id ∷ ids) = possible_of w (map (event.Act id) senders) ++ possible_acts w senders ids

-- the possible events at nodes, in the order of the event table
abbrev pub node_events : World → List Event
node_events w = possible_of w (map event.Answer (sessions w)) ++ possible_acts w (node_ids w) (node_ids w)
    ++ possible_of w (map event.Send (node_ids w)) ++ possible_of w (map event.See (node_ids w))
    ++ possible_of w (map event.Expire (open_txs w)) ++ possible_of w (map event.Minor (node_ids w))
    ++ possible_of w (map event.Call (sessions w))

-- no Answer, Act, Send, See, Expire, Minor or Call is possible
abbrev pub is_quiet : World → Bool
is_quiet w = nat_eq (length (node_events w)) 0

abbrev pub plan_events : World → List Event
plan_events w = possible_of w (event.Plan ∷ [])

abbrev pub tick_events : World → Bool → List Event
tick_events w true = possible_of w (event.Tick ∷ [])
tick_events w false = []

abbrev pub unless_broken : World → Bool → List Event
unless_broken w true = []
unless_broken w false = node_events w ++ plan_events w ++ tick_events w (is_quiet w)

-- the possible events, want of memory left out, in the order of the event table; none once a node is broken
abbrev pub possible : World → List Event
possible w = unless_broken w w.broken

abbrev pub is_tick : Event → Bool
is_tick event.Tick = true
is_tick _ = false

-- the clock moves only where all is quiet
abbrev pub is_enabled : World → Event → Bool
is_enabled w e = not w.broken && can_be w e && (not (is_tick e) || is_quiet w)

-- Ends.

-- the session of a lost node has ended
abbrev pub is_session_over_at : ℕ → NodeState → Life → Bool
is_session_over_at session node life.Gone = true
is_session_over_at session node _ = is_over_or_absent (session_state_of node session)

abbrev pub is_session_over_in : ℕ → Option Part → Bool
is_session_over_in session None = true
is_session_over_in session (Some p) = is_session_over_at session p.node p.life

abbrev pub is_session_over : World → ℕ → Bool
is_session_over w session = is_session_over_in session (option_and_then (part_at w) (session_node w session))

-- every session is at the end of its script, or was lost with its node
abbrev pub all_sessions_over : World → Bool
all_sessions_over w = list_all (is_session_over w) (sessions w)
