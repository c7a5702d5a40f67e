-- How a transaction ends at its starter: each step extends the node.
use Rattle.std.proofs.Common.{Bool, List, [], ◌∷◌, None, Option, Some, false, refl}
use Rattle.frame_laws.proofs.Steps.{on_session_state_kept, on_entry_kept}
use Rattle.act_rows.specs.Decisions.{after_close_tx, after_decide, after_decide_of, after_end_tx, after_fail, after_fault_ended, after_fault_ended_for, after_left_at_starter, after_left_decided, after_left_for_each, after_left_for_tx, after_left_in_state, after_left_undecided, after_left_undecided_with, after_tell, closing_answer, decided_entry, decision_outs, entry_after_left, outs_after_left, primaries_at, session_state_after_fault, txs_of, waiting_command, with_decision, with_entry_left, with_fault, with_fault_kept, without_tx}
use Rattle.act_rows.specs.Steps.{entry_of, session_state_of, with_note}
use Rattle.part_model.specs.NextMap.{has_node}
use Rattle.ignite_types.specs.declared.answer.Answer.{Answer}
use Rattle.ignite_types.specs.declared.answer.Fault.{Fault}
use Rattle.ignite_types.specs.declared.names.NodeId.{NodeId}
use Rattle.ignite_types.specs.declared.names.TxId.{TxId}
use Rattle.ignite_types.specs.declared.scenario.Command.{Command}
use Rattle.node_state.specs.declared.near.TxEntry.{TxEntry}
use Rattle.node_state.specs.declared.near.TxState.{TxState}
use Rattle.node_state.specs.Node.{NodeState}
use Rattle.node_state.specs.declared.session.SessionState.{SessionState}
use Rattle.ignite_types.specs.declared.answer.Fault.TheVariants as fault
use Rattle.ignite_types.specs.declared.journal.Rec.TheVariants as note
use Rattle.node_state.specs.declared.near.TxState.TheVariants as state
use Rattle.frame_laws.proofs.Plain.{decision_plain, left_plain}
use Rattle.frame_laws.specs.Kits.{ClosedUnderWatchedSteps}
use Rattle.frame_laws.proofs.Kits.{either_kept}

module _ {watched : Bool} (R : NodeState → NodeState → Type 0) (kit : ClosedUnderWatchedSteps watched R) where
  pub takes_decision_kept : (s : NodeState) (tx : TxId) (commit : Bool) → R s (with_decision s tx commit)
  takes_decision_kept s tx commit = on_entry_kept R kit s tx (decided_entry s commit) (entry_of s tx)

  pub decides_for_kept : (s : NodeState) (tx : TxId) (commit : Bool) (e : Option TxEntry) → R s (after_decide_of s tx commit e)
  decides_for_kept s tx commit None = kit.nothing s
  decides_for_kept s tx commit (Some e) =
      kit.andthen s _ _ (takes_decision_kept s tx commit)
      (kit.andthen _ _ _ (kit.noting (with_decision s tx commit) (note.Decide tx commit) refl refl refl)
      (kit.sent_all (with_note (with_decision s tx commit) (note.Decide tx commit)) (decision_outs s tx commit e)
      (decision_plain s tx commit e)))

  pub decides_kept : (s : NodeState) (tx : TxId) (commit : Bool) → R s (after_decide s tx commit)
  decides_kept s tx commit = decides_for_kept s tx commit (entry_of s tx)

  pub takes_fault_kept : (s : NodeState) (tx : TxId) (f : Fault) → R s (with_fault s tx f)
  takes_fault_kept s tx f = on_entry_kept R kit s tx (λ (e : TxEntry). record e { fault = Some f }) (entry_of s tx)

  pub fails_kept : (s : NodeState) (tx : TxId) (f : Fault) → R s (after_fail s tx f)
  fails_kept s tx f =
      kit.andthen s _ _ (takes_fault_kept s tx f)
      (kit.andthen _ _ _ (kit.noting (with_fault s tx f) (note.Fault tx f) refl refl refl)
      (decides_kept (with_note (with_fault s tx f) (note.Fault tx f)) tx false))

  pub without_tx_kept : (s : NodeState) (tx : TxId) → R s (without_tx s tx)
  without_tx_kept s tx = kit.aside s (without_tx s tx) refl

  pub tells_kept : (s : NodeState) (tx : TxId) (f : Fault) (c : Command) → R s (after_tell s tx f c)
  tells_kept s tx f c =
      let gone = without_tx s tx in
      kit.andthen s gone _ (without_tx_kept s tx) (on_session_state_kept R kit gone tx.session (session_state_after_fault f c)
      (session_state_of gone tx.session))

  pub keeps_fault_kept : (s : NodeState) (tx : TxId) → R s (with_fault_kept s tx)
  keeps_fault_kept s tx = on_entry_kept R kit s tx (λ (e : TxEntry). record e { state = state.Ended }) (entry_of s tx)

  pub fault_ended_for_kept : (s : NodeState) (tx : TxId) (f : Fault) (c : Option Command) → R s (after_fault_ended_for s tx f c)
  fault_ended_for_kept s tx f None = keeps_fault_kept s tx
  fault_ended_for_kept s tx f (Some c) = tells_kept s tx f c

  pub fault_ended_kept : (s : NodeState) (tx : TxId) (f : Fault) (d : Option SessionState) → R s (after_fault_ended s tx f d)
  fault_ended_kept s tx f None = keeps_fault_kept s tx
  fault_ended_kept s tx f (Some d) = fault_ended_for_kept s tx f (waiting_command d)

  pub closes_kept : (s : NodeState) (tx : TxId) (a : Answer) → R s (after_close_tx s tx a)
  closes_kept s tx a =
      let gone = without_tx s tx in
      kit.andthen s gone _ (without_tx_kept s tx)
      (on_session_state_kept R kit gone tx.session (λ (d : SessionState). record d {
        tx = None;
        block = false;
        ready =
            Some a;
      }) (session_state_of gone tx.session))

  pub ends_kept : (s : NodeState) (tx : TxId) (st : TxState) (outcome : Option Answer) (f : Option Fault) →
      R s (after_end_tx s tx st outcome f)
  ends_kept s tx st outcome None = closes_kept s tx (closing_answer st outcome)
  ends_kept s tx st outcome (Some f) = fault_ended_kept s tx f (session_state_of s tx.session)

  pub undecided_with_kept : (s : NodeState) (tx : TxId) (lost : NodeId) (primaries : List NodeId) →
      R s (after_left_undecided_with s tx lost primaries)
  undecided_with_kept s tx lost primaries =
      either_kept R kit s _ _ (has_node primaries lost) (fails_kept s tx (fault.NodeLost lost)) (kit.nothing s)

  pub undecided_left_kept : (s : NodeState) (tx : TxId) (lost : NodeId) (e : TxEntry) → R s (after_left_undecided s tx lost e)
  undecided_left_kept s tx lost e = undecided_with_kept s tx lost (primaries_at s e.keys)

  pub leaves_entry_kept : (s : NodeState) (tx : TxId) (lost : NodeId) → R s (with_entry_left s tx lost)
  leaves_entry_kept s tx lost = on_entry_kept R kit s tx (entry_after_left s lost) (entry_of s tx)

  pub decided_left_kept : (s : NodeState) (tx : TxId) (lost : NodeId) (e : TxEntry) → R s (after_left_decided s tx lost e)
  decided_left_kept s tx lost e =
      kit.andthen s _ _ (leaves_entry_kept s tx lost) (kit.sent_all (with_entry_left s tx lost) (outs_after_left s tx lost e)
      (left_plain s tx lost e))

  pub left_in_state_kept : (s : NodeState) (tx : TxId) (lost : NodeId) (e : TxEntry) (st : TxState) →
      R s (after_left_in_state s tx lost e st)
  left_in_state_kept s tx lost e state.Searching = kit.nothing s
  left_in_state_kept s tx lost e state.Committing = decided_left_kept s tx lost e
  left_in_state_kept s tx lost e state.RollingBack = decided_left_kept s tx lost e
  left_in_state_kept s tx lost e state.Ended = kit.nothing s
  left_in_state_kept s tx lost e _ = undecided_left_kept s tx lost e

  pub left_for_tx_kept : (s : NodeState) (tx : TxId) (lost : NodeId) (e : Option TxEntry) → R s (after_left_for_tx s tx lost e)
  left_for_tx_kept s tx lost None = kit.nothing s
  left_for_tx_kept s tx lost (Some e) = left_in_state_kept s tx lost e e.state

  pub left_for_each_kept : (s : NodeState) (lost : NodeId) (txs : List TxId) → R s (after_left_for_each s lost txs)
  left_for_each_kept s lost [] = kit.nothing s
  left_for_each_kept s lost (tx ∷ txs) =
      kit.andthen s _ _ (left_for_tx_kept s tx lost (entry_of s tx))
      (left_for_each_kept (after_left_for_tx s tx lost (entry_of s tx)) lost txs)

  pub near_side_left_kept : (s : NodeState) (lost : NodeId) → R s (after_left_at_starter s lost)
  near_side_left_kept s lost = left_for_each_kept s lost (txs_of s)
