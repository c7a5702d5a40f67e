-- One act of a node: its state afterwards, and the records that it noted.
use Rattle.std.specs.Prelude.{Bool, None, Option, Some, [], drop, is_some, slice_get, ℕ, ◌∷◌}
use Rattle.act_rows.specs.Accesses.{after_backup_finished_at_starter, after_finished_at_starter, after_get_ok, after_lock_ok, after_near_update, after_prepare_fail, after_prepared}
use Rattle.act_rows.specs.Backups.{after_backup_finish, after_backup_prepare}
use Rattle.act_rows.specs.Closing.{after_closing_rules}
use Rattle.act_rows.specs.Commands.{after_answer, after_call, answer_at, call_at}
use Rattle.act_rows.specs.Decisions.{after_left_at_starter}
use Rattle.act_rows.specs.Exchange.{after_full, after_installed, after_learn, after_learn_all, after_opens, after_single}
use Rattle.act_rows.specs.Filling.{after_complete, after_demand, after_supply}
use Rattle.act_rows.specs.Locks.{after_edges, after_get, after_lock}
use Rattle.act_rows.specs.Primary.{after_backup_finished_at_primary, after_backup_prepared, after_finish, after_left_at_primary, after_near_done, after_prepare}
use Rattle.act_rows.specs.Recovery.{after_backup_finished_at_recoverer, after_begin_round, after_finished_at_recoverer, after_orphans}
use Rattle.act_rows.specs.Searches.{after_edges_ok, after_expire, after_left_at_searches}
use Rattle.act_rows.specs.Steps.{with_note}
use Rattle.part_model.specs.Orders.{next_count}
use Rattle.ignite_types.specs.declared.journal.Rec.{Rec}
use Rattle.ignite_types.specs.declared.journal.TopoEvent.{TopoEvent}
use Rattle.ignite_types.specs.declared.list.List.{List}
use Rattle.ignite_types.specs.declared.message.Message.{Message}
use Rattle.ignite_types.specs.declared.message.Out.{Out}
use Rattle.ignite_types.specs.declared.names.NodeId.{NodeId}
use Rattle.ignite_types.specs.declared.names.TxId.{TxId}
use Rattle.node_state.specs.Node.{NodeState}
use Rattle.ignite_types.specs.declared.message.Message.TheVariants as msg
use Rattle.ignite_types.specs.declared.journal.Rec.TheVariants as note
use Rattle.ignite_types.specs.declared.journal.TopoEvent.TheVariants as topo

-- what an act leaves and notes
pub record Acted : Type 0 where
  pub state : NodeState
  pub recs : List Rec

-- an act begins: it counts, and nothing is noted yet
abbrev pub with_act_begun : NodeState → NodeState
with_act_begun s = record s { acts = next_count s.acts; noted = [] }

-- an act is over: what it noted is taken
abbrev pub act_result : NodeState → Acted
act_result s = record { state = record s { noted = [] }; recs = s.noted }

abbrev pub after_finished : NodeState → NodeId → TxId → NodeState
after_finished s from tx = after_finished_at_recoverer (after_finished_at_starter s from tx) from tx

-- BackupFinished: to the primary, to the starter, or to the recoverer
abbrev pub after_backup_finished : NodeState → NodeId → TxId → NodeId → NodeState
after_backup_finished s from tx primary = after_backup_finished_at_recoverer
    (after_backup_finished_at_starter (after_backup_finished_at_primary s from tx primary) from tx primary) from tx primary

-- the messages of topology and recovery
abbrev pub after_topology_message : NodeState → NodeId → Message → NodeState
after_topology_message s from (msg.Single top m complete) = after_single s from top m complete
after_topology_message s from (msg.Full m) = after_full s from m
after_topology_message s from (msg.Installed top) = after_installed s from top
after_topology_message s from (msg.Opens top) = after_opens s top
after_topology_message s from (msg.Demand top part after) = after_demand s from top part after
after_topology_message s from (msg.Supply top part entries last) = after_supply s from top part entries last
after_topology_message s from (msg.Complete top) = after_complete s from top
after_topology_message s from (msg.Orphans round list) = after_orphans s from round list
after_topology_message s from _ = s

-- the messages between the parts of a primary, its backups, movers and readers
abbrev pub after_holder_message : NodeState → NodeId → Message → NodeState
after_holder_message s from (msg.BackupPrepare tx top shares primary writes) =
    after_backup_prepare s from tx top shares primary writes
after_holder_message s from (msg.BackupPrepared tx) = after_backup_prepared s from tx
after_holder_message s from (msg.BackupFinish tx primary commit) = after_backup_finish s from tx primary commit
after_holder_message s from (msg.BackupFinished tx primary) = after_backup_finished s from tx primary
after_holder_message s from (msg.NearUpdate tx key new ver) = after_near_update s from tx key new ver
after_holder_message s from (msg.NearDone tx key) = after_near_done s from tx key
after_holder_message s from m = after_topology_message s from m

-- the message table: first the messages between starters and primaries, and those of a search
abbrev pub after_message : NodeState → NodeId → Message → NodeState
after_message s from (msg.Lock tx top key) = after_lock s from tx top key
after_message s from (msg.LockOk tx key found) = after_lock_ok s tx key found
after_message s from (msg.Get tx key near) = after_get s from tx key near
after_message s from (msg.GetOk tx key found) = after_get_ok s tx key found
after_message s from (msg.Prepare tx top mode shares wanted writes) = after_prepare s from tx top mode shares wanted writes
after_message s from (msg.Prepared tx) = after_prepared s from tx
after_message s from (msg.PrepareFail tx why) = after_prepare_fail s tx why
after_message s from (msg.Finish tx commit) = after_finish s from tx commit
after_message s from (msg.Finished tx) = after_finished s from tx
after_message s from (msg.Edges tx round of) = after_edges s from tx round of
after_message s from (msg.EdgesOk tx round act waits) = after_edges_ok s from tx round act waits
after_message s from m = after_holder_message s from m

-- a message is taken, and noted before all that it brings
abbrev pub message_act : NodeState → NodeId → Message → Acted
message_act s from m = let done = act_result (after_closing_rules (after_message (with_act_begun s) from m)) in
    record { state = done.state; recs = note.Deliver from m ∷ done.recs }

-- what seeing an event brings beside its version: a loss ends waits and begins a recovery
abbrev pub after_event_effects : NodeState → ℕ → TopoEvent → NodeState
after_event_effects s place (topo.Left node) =
    after_left_at_searches (after_begin_round (after_left_at_primary (after_left_at_starter s node) node) place) node
after_event_effects s place _ = s

-- a topology event is read, the one at this place
abbrev pub after_see : NodeState → ℕ → TopoEvent → NodeState
after_see s place event = after_event_effects (with_note (after_learn s event) (note.See place)) place event

abbrev pub see_act : NodeState → TopoEvent → Acted
see_act s event = act_result (after_closing_rules (after_see (with_act_begun s) s.read event))

-- a node joins: it learns the events before its own Join, and reads that one
abbrev pub join_act : NodeState → List TopoEvent → ℕ → TopoEvent → Acted
join_act s events now own = see_act (after_learn_all s events now) own

-- the deadline of a transaction was reached
abbrev pub expire_act : NodeState → TxId → Acted
expire_act s tx = act_result (after_closing_rules (after_expire (with_act_begun s) tx))

-- a session gives its next command
abbrev pub call_act : NodeState → ℕ → Acted
call_act s session = act_result (after_closing_rules (after_call (with_act_begun s) session))

-- a session's ready answer is handed out
abbrev pub answer_act : NodeState → ℕ → Acted
answer_act s session = act_result (after_answer (with_act_begun s) session)

-- the late switch begins
abbrev pub minor_act : NodeState → Acted
minor_act s = act_result (with_act_begun s)

-- the oldest message of the outbox
abbrev pub oldest_out : NodeState → Option Out
oldest_out s = slice_get s.outbox 0

abbrev pub act_of_send : NodeState → Option Out → Acted
act_of_send s None = record { state = s; recs = [] }
act_of_send s (Some out) = record { state = record s { outbox = drop 1 s.outbox }; recs = note.Sent out.to out.msg ∷ [] }

-- the oldest message leaves the outbox
abbrev pub send_act : NodeState → Acted
send_act s = act_of_send (with_act_begun s) (oldest_out s)

-- what the state says of possible events

abbrev pub may_call : NodeState → ℕ → Bool
may_call s session = is_some (call_at s session)

abbrev pub may_answer : NodeState → ℕ → Bool
may_answer s session = is_some (answer_at s session)

abbrev pub may_send : NodeState → Bool
may_send s = is_some (oldest_out s)
