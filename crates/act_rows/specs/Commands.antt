-- How a session's commands are taken and answered.
use Rattle.std.specs.Option.{option_and_then}
use Rattle.std.specs.Prelude.{Bool, None, Option, Some, [], false, if◌then◌else◌, is_none, min, nat_le, suc, true, zero, ℕ, ◌&&◌, ◌+◌, ◌-◌, ◌^◌}
use Rattle.act_rows.specs.Accesses.{after_run_command}
use Rattle.act_rows.specs.Decisions.{after_decide, after_tell}
use Rattle.act_rows.specs.Steps.{entry_of, on_session_state, session_state_of, with_answer_ready, with_entry, with_note}
use Rattle.part_model.specs.Orders.{next_count}
use Rattle.part_model.specs.Script.{advance, command_at, no_progress}
use Rattle.ignite_types.specs.declared.answer.Answer.{Answer}
use Rattle.ignite_types.specs.declared.answer.Fault.{Fault}
use Rattle.ignite_types.specs.declared.list.List.{List}
use Rattle.ignite_types.specs.declared.names.TopVer.{TopVer}
use Rattle.ignite_types.specs.declared.names.TxId.{TxId}
use Rattle.ignite_types.specs.declared.scenario.Command.{Command}
use Rattle.ignite_types.specs.declared.scenario.Item.{Item}
use Rattle.ignite_types.specs.declared.scenario.Mode.{Mode}
use Rattle.node_state.specs.declared.near.TxEntry.{TxEntry}
use Rattle.node_state.specs.declared.near.TxState.{TxState}
use Rattle.node_state.specs.Node.{NodeState}
use Rattle.node_state.specs.declared.session.SessionState.{SessionState}
use Rattle.ignite_types.specs.declared.answer.Answer.TheVariants as answer
use Rattle.ignite_types.specs.declared.scenario.Command.TheVariants as command
use Rattle.ignite_types.specs.declared.scenario.Mode.TheVariants as mode
use Rattle.ignite_types.specs.declared.journal.Rec.TheVariants as note
use Rattle.node_state.specs.declared.near.TxState.TheVariants as state

abbrev pub command_unless_pending : Option Command → SessionState → Option Command
command_unless_pending None d = command_at d.script d.progress
command_unless_pending (Some pending) d = None

-- at the script's end an open block is closed
abbrev pub command_or_close : Option Command → Option Command → Bool → Option Command
command_or_close (Some c) pending block = Some c
command_or_close None None true = Some command.Close
command_or_close None _ _ = None

-- the command that the session would give next, where none is pending
abbrev pub command_to_give : SessionState → Option Command
command_to_give d = command_or_close (command_unless_pending d.pending d) d.pending d.block

-- a session's state before its first command
abbrev pub new_session_state : List Item → SessionState
new_session_state script = record {
  script = script;
  progress = no_progress;
  pending = None;
  wake = None;
  ready = None;
  block = false;
  skipping = false;
  tx = None;
  started = 0;
}

abbrev pub new_entry : Mode → Option ℕ → TxEntry
new_entry mode deadline = record {
  mode = mode;
  deadline = deadline;
  top = None;
  state = state.Idle;
  keys = [];
  reads = [];
  writes = [];
  asked = [];
  shares = [];
  awaited = [];
  backups = [];
  getting = None;
  search = None;
  fault = None;
  outcome = None;
}

-- the name of the session's next transaction, after so many
abbrev pub next_tx : NodeState → ℕ → ℕ → TxId
next_tx s session started = record { node = s.me; session = session; number = next_count started }

-- a new transaction, of a block or of one access
abbrev pub after_open_tx : NodeState → TxId → Mode → Option ℕ → Bool → NodeState
after_open_tx s tx mode deadline block = let known = with_entry s tx (new_entry mode deadline) in
    on_session_state known tx.session (λ (d : SessionState). record d {
      tx = Some tx;
      block = block;
      skipping = false;
      started = tx.number;
    })
    (session_state_of known tx.session)

-- the sum of two moments, which stands still at the end of 64 bits
abbrev pub moment_after : ℕ → ℕ → ℕ
moment_after now n = min (now + n) (2 ^ 64 - 1)

-- a timeout of 0 is none
abbrev pub deadline_at : ℕ → ℕ → Option ℕ
deadline_at now zero = None
deadline_at now (suc n) = Some (moment_after now (suc n))

-- begin: a new block, unless a transaction is open or has a fault that is not told yet
abbrev pub after_begin : NodeState → ℕ → ℕ → Mode → ℕ → Option TxId → NodeState
after_begin s session started mode timeout (Some tx) = with_answer_ready s session answer.TransactionOpen
after_begin s session started mode timeout None =
    with_answer_ready (after_open_tx s (next_tx s session started) mode (deadline_at s.now timeout) true) session answer.Done

-- a fault that was not told yet is told once the rollback has ended
abbrev pub after_tell_if_ended : NodeState → TxId → Fault → Command → TxState → NodeState
after_tell_if_ended s tx f c state.Ended = after_tell s tx f c
after_tell_if_ended s tx f c _ = s

-- a command of a transaction whose version is fixed is done at once; any other waits for the start
abbrev pub after_run_if_started : NodeState → TxId → Bool → Command → Option TopVer → NodeState
after_run_if_started s tx block c None = s
after_run_if_started s tx block c (Some top) = after_run_command s tx top block c

-- rollback and close need no version
abbrev pub after_command_without_fault : NodeState → TxId → Bool → Command → Option TopVer → NodeState
after_command_without_fault s tx block command.Rollback top = after_decide s tx false
after_command_without_fault s tx block command.Close top = after_decide s tx false
after_command_without_fault s tx block c top = after_run_if_started s tx block c top

abbrev pub after_command_of_entry : NodeState → TxId → Bool → Command → TxEntry → Option Fault → NodeState
after_command_of_entry s tx block c e (Some f) = after_tell_if_ended s tx f c e.state
after_command_of_entry s tx block c e None = after_command_without_fault s tx block c e.top

abbrev pub after_command_in_transaction : NodeState → TxId → Bool → Command → Option TxEntry → NodeState
after_command_in_transaction s tx block c None = s
after_command_in_transaction s tx block c (Some e) = after_command_of_entry s tx block c e e.fault

-- an access: of the open transaction; skipped after a told fault; or of a new transaction for itself
abbrev pub after_access_command : NodeState → ℕ → ℕ → Bool → Command → Option TxId → Bool → NodeState
after_access_command s session started block c (Some tx) skipping = after_command_in_transaction s tx block c (entry_of s tx)
after_access_command s session started block c None true = with_answer_ready s session answer.Skipped
after_access_command s session started block c None false =
    after_open_tx s (next_tx s session started) mode.Pessimistic None false

-- the block whose fault was told is over
abbrev pub after_skip_end : NodeState → ℕ → NodeState
after_skip_end s session =
    on_session_state s session (λ (d : SessionState). record d { skipping = false; ready = Some answer.Skipped })
    (session_state_of s session)

-- commit, rollback and close: of the open transaction; skipped after a told fault; or of none
abbrev pub after_end_command : NodeState → ℕ → Bool → Command → Option TxId → Bool → NodeState
after_end_command s session block c (Some tx) skipping = after_command_in_transaction s tx block c (entry_of s tx)
after_end_command s session block c None true = after_skip_end s session
after_end_command s session block c None false = with_answer_ready s session answer.NoTransaction

abbrev pub after_sleep : NodeState → ℕ → ℕ → NodeState
after_sleep s session n =
    on_session_state s session (λ (d : SessionState). record d { wake = Some (moment_after s.now n) })
    (session_state_of s session)

-- a command, by what its session stands at: how many transactions it has started, whether a block is open or skipped, and
-- its transaction
abbrev pub after_command : NodeState → ℕ → ℕ → Bool → Bool → Option TxId → Command → NodeState
after_command s session started block skipping tx (command.Begin mode timeout) = after_begin s session started mode timeout tx
after_command s session started block skipping tx (command.Sleep n) = after_sleep s session n
after_command s session started block skipping tx command.Commit =
    after_end_command s session block command.Commit tx skipping
after_command s session started block skipping tx command.Rollback =
    after_end_command s session block command.Rollback tx skipping
after_command s session started block skipping tx command.Close = after_end_command s session block command.Close tx skipping
after_command s session started block skipping tx c = after_access_command s session started block c tx skipping

-- the command waits for its answer
abbrev pub with_pending : NodeState → ℕ → Command → NodeState
with_pending s session c =
    on_session_state s session (λ (d : SessionState). record d { pending = Some c }) (session_state_of s session)

-- the command is noted and pending, and then its row is done
abbrev pub after_take_command : NodeState → ℕ → SessionState → Option Command → NodeState
after_take_command s session d None = s
after_take_command s session d (Some c) =
    after_command (with_note (with_pending s session c) (note.Call session c)) session d.started d.block d.skipping d.tx c

abbrev pub after_call_of : NodeState → ℕ → Option SessionState → NodeState
after_call_of s session None = s
after_call_of s session (Some d) = after_take_command s session d (command_to_give d)

-- the session gives its next command
abbrev pub after_call : NodeState → ℕ → NodeState
after_call s session = after_call_of s session (session_state_of s session)

-- Answers.

-- the end of a sleep is reached
abbrev pub answer_of_sleep : ℕ → Option ℕ → Option Answer
answer_of_sleep now None = None
answer_of_sleep now (Some wake) = if nat_le wake now then Some answer.Done else None

abbrev pub answer_or_slept : Option Answer → Option Answer → Option Answer
answer_or_slept (Some a) answer_of_sleep = Some a
answer_or_slept None answer_of_sleep = answer_of_sleep

-- the answer that the session can be given
abbrev pub answer_to_give : NodeState → SessionState → Option Answer
answer_to_give s d = answer_or_slept d.ready (answer_of_sleep s.now d.wake)

-- the pending command is answered, and the session goes on in its script
abbrev pub session_state_after_answer : Answer → SessionState → SessionState
session_state_after_answer a d =
    record d { progress = (advance d.script d.progress a).progress; pending = None; wake = None; ready = None }

abbrev pub after_hand_out : NodeState → ℕ → Option Answer → NodeState
after_hand_out s session None = s
after_hand_out s session (Some a) =
    with_note (on_session_state s session (session_state_after_answer a) (session_state_of s session)) (note.Answer session a)

abbrev pub after_answer_of : NodeState → ℕ → Option SessionState → NodeState
after_answer_of s session None = s
after_answer_of s session (Some d) = after_hand_out s session (answer_to_give s d)

-- the session is given its answer
abbrev pub after_answer : NodeState → ℕ → NodeState
after_answer s session = after_answer_of s session (session_state_of s session)

-- the answer that is ready for a session, if one is
abbrev pub answer_at : NodeState → ℕ → Option Answer
answer_at s session = option_and_then (answer_to_give s) (session_state_of s session)

abbrev pub call_at : NodeState → ℕ → Option Command
call_at s session = option_and_then command_to_give (session_state_of s session)

-- the session is at its end: no command is pending and none is left
abbrev pub is_session_state_over : SessionState → Bool
is_session_state_over d = is_none d.pending && is_none (command_to_give d)

-- a session that is not here has ended
abbrev pub is_over_or_absent : Option SessionState → Bool
is_over_or_absent None = true
is_over_or_absent (Some d) = is_session_state_over d
