-- How a transaction ends at its starter: its fault, its decision, what is awaited then, and what its session is told.
use Rattle.std.specs.Prelude.{Bool, None, Option, Some, [], false, filter, if◌then◌else◌, not, true, ◌&&◌, ◌++◌, ◌∷◌}
use Rattle.act_rows.specs.Steps.{entry_of, is_live, live_among, live_holders, lost_among, on_entry, on_session_state, outs_to, primary_at, session_state_of, with_note, with_outs}
use Rattle.part_model.specs.NextMap.{has_node}
use Rattle.part_model.specs.Tables.{keys_in}
use Rattle.ignite_types.specs.Names.{node_cmp, same_node, share_cmp, tx_cmp}
use Rattle.ignite_types.specs.Placement.{holders}
use Rattle.ignite_types.specs.declared.answer.Answer.{Answer}
use Rattle.ignite_types.specs.declared.answer.Fault.{Fault}
use Rattle.ignite_types.specs.declared.list.List.{List}
use Rattle.ignite_types.specs.declared.message.Out.{Out}
use Rattle.ignite_types.specs.declared.names.NodeId.{NodeId}
use Rattle.ignite_types.specs.declared.names.TxId.{TxId}
use Rattle.ignite_types.specs.declared.placement.Share.{Share}
use Rattle.ignite_types.specs.declared.scenario.Command.{Command}
use Rattle.ignite_types.specs.declared.text.Key.{Key}
use Rattle.node_state.specs.declared.near.TxEntry.{TxEntry}
use Rattle.node_state.specs.declared.near.TxState.{TxState}
use Rattle.node_state.specs.Node.{NodeState}
use Rattle.node_state.specs.declared.session.SessionState.{SessionState}
use Rattle.ordered_set.specs.Members.{has, with_member, without_member}
use Rattle.ordered_table.specs.Entries.{without}
use Rattle.ignite_types.specs.declared.answer.Answer.TheVariants as answer
use Rattle.ignite_types.specs.declared.scenario.Command.TheVariants as command
use Rattle.ignite_types.specs.declared.answer.Fault.TheVariants as fault
use Rattle.ignite_types.specs.declared.message.Message.TheVariants as msg
use Rattle.ignite_types.specs.declared.journal.Rec.TheVariants as note
use Rattle.node_state.specs.declared.near.TxState.TheVariants as state

-- the shares of lost primaries whose holders are live
abbrev pub orphaned_shares : NodeState → List Share → List Share
orphaned_shares s shares = filter (λ (h : Share). not (is_live s h.primary) && is_live s h.holder) shares

-- BackupFinish for one primary's shares
abbrev pub backup_finish_outs : TxId → NodeId → Bool → List NodeId → List Out
backup_finish_outs tx primary commit holders = outs_to holders (msg.BackupFinish tx primary commit)

-- BackupFinish for the shares of these lost primaries, to the live holders of each
abbrev pub finishes_for_lost : NodeState → TxId → Bool → List Share → List NodeId → List Out
finishes_for_lost s tx commit shares [] = []
finishes_for_lost s tx commit shares (primary ∷ more) =
    backup_finish_outs tx primary commit (live_holders s shares primary) ++ finishes_for_lost s tx commit shares more

abbrev pub decided_state : Bool → TxState
decided_state true = state.Committing
decided_state false = state.RollingBack

-- from the decision on each live primary that was asked is awaited, and each live holder of a lost one's share
abbrev pub decided_entry : NodeState → Bool → TxEntry → TxEntry
decided_entry s commit e = record e {
  state = decided_state commit;
  awaited = live_among s e.asked;
  backups = orphaned_shares s e.shares;
  getting = None;
  search = None;
}

abbrev pub with_decision : NodeState → TxId → Bool → NodeState
with_decision s tx commit = on_entry s tx (decided_entry s commit) (entry_of s tx)

-- Finish to each live primary that was asked, then BackupFinish for those that were lost
abbrev pub decision_outs : NodeState → TxId → Bool → TxEntry → List Out
decision_outs s tx commit e =
    outs_to (live_among s e.asked) (msg.Finish tx commit) ++ finishes_for_lost s tx commit e.shares (lost_among s e.asked)

abbrev pub after_decide_of : NodeState → TxId → Bool → Option TxEntry → NodeState
after_decide_of s tx commit None = s
after_decide_of s tx commit (Some e) =
    with_outs (with_note (with_decision s tx commit) (note.Decide tx commit)) (decision_outs s tx commit e)

-- the decision is noted, and all that hold something of the transaction are told
abbrev pub after_decide : NodeState → TxId → Bool → NodeState
after_decide s tx commit = after_decide_of s tx commit (entry_of s tx)

abbrev pub with_fault : NodeState → TxId → Fault → NodeState
with_fault s tx f = on_entry s tx (λ (e : TxEntry). record e { fault = Some f }) (entry_of s tx)

-- a fault is noted and rolls the transaction back
abbrev pub after_fail : NodeState → TxId → Fault → NodeState
after_fail s tx f = after_decide (with_note (with_fault s tx f) (note.Fault tx f)) tx false

-- Telling.

-- a fault that these commands tell ends the block
abbrev pub is_block_end : Command → Bool
is_block_end command.Commit = true
is_block_end command.Rollback = true
is_block_end command.Close = true
is_block_end _ = false

abbrev pub without_tx : NodeState → TxId → NodeState
without_tx s tx = record s { txs = without tx_cmp s.txs tx }

-- the session has no transaction any more, and is told the fault; further accesses of the block are skipped
abbrev pub session_state_after_fault : Fault → Command → SessionState → SessionState
session_state_after_fault f c d =
    record d { tx = None; block = false; skipping = d.block && not (is_block_end c); ready = Some (answer.Failed f) }

abbrev pub after_tell : NodeState → TxId → Fault → Command → NodeState
after_tell s tx f c =
    let gone = without_tx s tx in on_session_state gone tx.session (session_state_after_fault f c)
    (session_state_of gone tx.session)

-- the fault is kept until a command asks for it
abbrev pub with_fault_kept : NodeState → TxId → NodeState
with_fault_kept s tx = on_entry s tx (λ (e : TxEntry). record e { state = state.Ended }) (entry_of s tx)

-- a command that is not answered yet waits for the end, unless it is a sleep
abbrev pub waiting_for_end : Option Command → Option Answer → Option Command
waiting_for_end (Some (command.Sleep n)) None = None
waiting_for_end (Some c) None = Some c
waiting_for_end _ _ = None

abbrev pub waiting_command : SessionState → Option Command
waiting_command d = waiting_for_end d.pending d.ready

abbrev pub after_fault_ended_for : NodeState → TxId → Fault → Option Command → NodeState
after_fault_ended_for s tx f None = with_fault_kept s tx
after_fault_ended_for s tx f (Some c) = after_tell s tx f c

-- a rollback by fault has ended: the command that waits is told, or else a later one
abbrev pub after_fault_ended : NodeState → TxId → Fault → Option SessionState → NodeState
after_fault_ended s tx f None = with_fault_kept s tx
after_fault_ended s tx f (Some d) = after_fault_ended_for s tx f (waiting_command d)

-- what a session is answered when its transaction has ended without a fault
abbrev pub closing_answer : TxState → Option Answer → Answer
closing_answer _ (Some outcome) = outcome
closing_answer state.Committing None = answer.Committed
closing_answer _ None = answer.RolledBack

-- the transaction has ended: its session's answer is ready, and the session has no transaction
abbrev pub after_close_tx : NodeState → TxId → Answer → NodeState
after_close_tx s tx a = let gone = without_tx s tx in
    on_session_state gone tx.session (λ (d : SessionState). record d { tx = None; block = false; ready = Some a })
    (session_state_of gone tx.session)

abbrev pub after_end_tx : NodeState → TxId → TxState → Option Answer → Option Fault → NodeState
after_end_tx s tx st outcome None = after_close_tx s tx (closing_answer st outcome)
after_end_tx s tx st outcome (Some f) = after_fault_ended s tx f (session_state_of s tx.session)

-- A starter sees a node leave.

abbrev pub with_primary : List NodeId → Option NodeId → List NodeId
with_primary nodes None = nodes
with_primary nodes (Some primary) = with_member node_cmp nodes primary

-- the primaries of these keys, ascending
abbrev pub primaries_from : NodeState → List NodeId → List Key → List NodeId
primaries_from s nodes [] = nodes
primaries_from s nodes (key ∷ keys) = primaries_from s (with_primary nodes (primary_at s key)) keys

abbrev pub primaries_at : NodeState → List Key → List NodeId
primaries_at s keys = primaries_from s [] keys

-- undecided: the loss of a key's primary is a fault
abbrev pub after_left_undecided_with : NodeState → TxId → NodeId → List NodeId → NodeState
after_left_undecided_with s tx node primaries = if has_node primaries node then after_fail s tx (fault.NodeLost node) else s

abbrev pub after_left_undecided : NodeState → TxId → NodeId → TxEntry → NodeState
after_left_undecided s tx node e = after_left_undecided_with s tx node (primaries_at s e.keys)

abbrev pub with_shares : List Share → List Share → List Share
with_shares set [] = set
with_shares set (h ∷ hs) = with_shares (with_member share_cmp set h) hs

-- the shares of a primary
abbrev pub shares_under : List Share → NodeId → List Share
shares_under shares primary = filter (λ (h : Share). same_node h.primary primary) shares

-- where the lost node is a primary that is awaited, the holders of its shares are awaited too
abbrev pub backups_after : TxEntry → NodeId → List Share
backups_after e node = if has node_cmp e.awaited node
    then with_shares e.backups (shares_under e.shares node)
    else e.backups

abbrev pub live_backups : NodeState → List Share → List Share
live_backups s shares = filter (λ (h : Share). is_live s h.holder) shares

-- a lost node is awaited no more
abbrev pub entry_after_left : NodeState → NodeId → TxEntry → TxEntry
entry_after_left s node e = record e {
  awaited = without_member node_cmp e.awaited node;
  backups = live_backups s (backups_after e node);
}

abbrev pub with_entry_left : NodeState → TxId → NodeId → NodeState
with_entry_left s tx node = on_entry s tx (entry_after_left s node) (entry_of s tx)

abbrev pub is_committing : TxState → Bool
is_committing state.Committing = true
is_committing _ = false

abbrev pub outs_after_left : NodeState → TxId → NodeId → TxEntry → List Out
outs_after_left s tx node e = if has node_cmp e.awaited node
    then backup_finish_outs tx node (is_committing e.state) (live_holders s e.shares node)
    else []

abbrev pub after_left_decided : NodeState → TxId → NodeId → TxEntry → NodeState
after_left_decided s tx node e = with_outs (with_entry_left s tx node) (outs_after_left s tx node e)

abbrev pub after_left_in_state : NodeState → TxId → NodeId → TxEntry → TxState → NodeState
after_left_in_state s tx node e state.Searching = s
after_left_in_state s tx node e state.Committing = after_left_decided s tx node e
after_left_in_state s tx node e state.RollingBack = after_left_decided s tx node e
after_left_in_state s tx node e state.Ended = s
after_left_in_state s tx node e _ = after_left_undecided s tx node e

abbrev pub after_left_for_tx : NodeState → TxId → NodeId → Option TxEntry → NodeState
after_left_for_tx s tx node None = s
after_left_for_tx s tx node (Some e) = after_left_in_state s tx node e e.state

abbrev pub after_left_for_each : NodeState → NodeId → List TxId → NodeState
after_left_for_each s node [] = s
after_left_for_each s node (tx ∷ txs) = after_left_for_each (after_left_for_tx s tx node (entry_of s tx)) node txs

abbrev pub txs_of : NodeState → List TxId
txs_of s = keys_in s.txs

-- the near side of a loss, by transaction
abbrev pub after_left_at_starter : NodeState → NodeId → NodeState
after_left_at_starter s node = after_left_for_each s node (txs_of s)
