-- How a session's commands are taken and answered: each step extends the node.
use Rattle.std.proofs.Common.{Bool, None, Option, Some, false, refl, true}
use Rattle.std.specs.Prelude.{ℕ}
use Rattle.frame_laws.proofs.Accesses.{does_kept}
use Rattle.frame_laws.proofs.Decisions.{decides_kept, tells_kept}
use Rattle.frame_laws.proofs.Steps.{answered_kept, on_session_state_kept, with_entry_kept}
use Rattle.act_rows.specs.Commands.{after_access_command, after_answer, after_answer_of, after_begin, after_call, after_call_of, after_command, after_command_in_transaction, after_command_of_entry, after_command_without_fault, after_end_command, after_hand_out, after_open_tx, after_run_if_started, after_skip_end, after_sleep, after_take_command, after_tell_if_ended, answer_to_give, command_to_give, deadline_at, moment_after, new_entry, next_tx, session_state_after_answer, with_pending}
use Rattle.act_rows.specs.Steps.{entry_of, on_session_state, session_state_of, with_entry, with_note}
use Rattle.ignite_types.specs.declared.answer.Answer.{Answer}
use Rattle.ignite_types.specs.declared.answer.Fault.{Fault}
use Rattle.ignite_types.specs.declared.names.TopVer.{TopVer}
use Rattle.ignite_types.specs.declared.names.TxId.{TxId}
use Rattle.ignite_types.specs.declared.scenario.Command.{Command}
use Rattle.ignite_types.specs.declared.scenario.Mode.{Mode}
use Rattle.node_state.specs.declared.near.TxEntry.{TxEntry}
use Rattle.node_state.specs.declared.near.TxState.{TxState}
use Rattle.node_state.specs.Node.{NodeState}
use Rattle.node_state.specs.declared.session.SessionState.{SessionState}
use Rattle.ignite_types.specs.declared.answer.Answer.TheVariants as answer
use Rattle.ignite_types.specs.declared.scenario.Command.TheVariants as command
use Rattle.ignite_types.specs.declared.scenario.Mode.TheVariants as mode
use Rattle.ignite_types.specs.declared.journal.Rec.TheVariants as note
use Rattle.node_state.specs.declared.near.TxState.TheVariants as state
use Rattle.frame_laws.specs.Kits.{ClosedUnderWatchedSteps}

module _ {watched : Bool} (R : NodeState → NodeState → Type 0) (kit : ClosedUnderWatchedSteps watched R) where
  pub opens_kept : (s : NodeState) (tx : TxId) (m : Mode) (deadline : Option ℕ) (block : Bool) →
      R s (after_open_tx s tx m deadline block)
  opens_kept s tx m deadline block =
      let known = with_entry s tx (new_entry m deadline) in
      kit.andthen s known _ (with_entry_kept R kit s tx (new_entry m deadline))
      (on_session_state_kept R kit known tx.session (λ (d : SessionState). record d {
        tx = Some tx;
        block = block;
        skipping =
            false;
        started = tx.number;
      })
      (session_state_of known tx.session))

  pub begins_kept : (s : NodeState) (session started : ℕ) (m : Mode) (timeout : ℕ) (tx : Option TxId) →
      R s (after_begin s session started m timeout tx)
  begins_kept s session started m timeout (Some tx) = answered_kept R kit s session answer.TransactionOpen
  begins_kept s session started m timeout None =
      kit.andthen s _ _ (opens_kept s (next_tx s session started) m (deadline_at s.now timeout) true)
      (answered_kept R kit (after_open_tx s (next_tx s session started) m (deadline_at s.now timeout) true) session answer.Done)

  pub told_if_ended_kept : (s : NodeState) (tx : TxId) (f : Fault) (c : Command) (st : TxState) →
      R s (after_tell_if_ended s tx f c st)
  told_if_ended_kept s tx f c state.Ended = tells_kept R kit s tx f c
  told_if_ended_kept s tx f c _ = kit.nothing s

  pub does_if_started_kept : (s : NodeState) (tx : TxId) (block : Bool) (c : Command) (top : Option TopVer) →
      R s (after_run_if_started s tx block c top)
  does_if_started_kept s tx block c None = kit.nothing s
  does_if_started_kept s tx block c (Some top) = does_kept R kit s tx top block c

  pub in_sound_kept : (s : NodeState) (tx : TxId) (block : Bool) (c : Command) (top : Option TopVer) →
      R s (after_command_without_fault s tx block c top)
  in_sound_kept s tx block command.Rollback top = decides_kept R kit s tx false
  in_sound_kept s tx block command.Close top = decides_kept R kit s tx false
  in_sound_kept s tx block c top = does_if_started_kept s tx block c top

  pub in_entry_kept : (s : NodeState) (tx : TxId) (block : Bool) (c : Command) (e : TxEntry) (f : Option Fault) →
      R s (after_command_of_entry s tx block c e f)
  in_entry_kept s tx block c e (Some f) = told_if_ended_kept s tx f c e.state
  in_entry_kept s tx block c e None = in_sound_kept s tx block c e.top

  pub in_transaction_kept : (s : NodeState) (tx : TxId) (block : Bool) (c : Command) (e : Option TxEntry) →
      R s (after_command_in_transaction s tx block c e)
  in_transaction_kept s tx block c None = kit.nothing s
  in_transaction_kept s tx block c (Some e) = in_entry_kept s tx block c e e.fault

  pub access_row_kept : (s : NodeState) (session started : ℕ) (block : Bool) (c : Command) (tx : Option TxId)
      (skipping : Bool) → R s (after_access_command s session started block c tx skipping)
  access_row_kept s session started block c (Some tx) skipping = in_transaction_kept s tx block c (entry_of s tx)
  access_row_kept s session started block c None true = answered_kept R kit s session answer.Skipped
  access_row_kept s session started block c None false = opens_kept s (next_tx s session started) mode.Pessimistic None false

  pub skips_end_kept : (s : NodeState) (session : ℕ) → R s (after_skip_end s session)
  skips_end_kept s session = on_session_state_kept R kit s session (λ (d : SessionState). record d {
    skipping = false;
    ready =
        Some answer.Skipped;
  }) (session_state_of s session)

  pub end_row_kept : (s : NodeState) (session : ℕ) (block : Bool) (c : Command) (tx : Option TxId) (skipping : Bool) →
      R s (after_end_command s session block c tx skipping)
  end_row_kept s session block c (Some tx) skipping = in_transaction_kept s tx block c (entry_of s tx)
  end_row_kept s session block c None true = skips_end_kept s session
  end_row_kept s session block c None false = answered_kept R kit s session answer.NoTransaction

  pub sleeps_kept : (s : NodeState) (session n : ℕ) → R s (after_sleep s session n)
  sleeps_kept s session n =
      on_session_state_kept R kit s session (λ (d : SessionState). record d { wake = Some (moment_after s.now n) })
      (session_state_of s session)

  pub command_row_kept : (s : NodeState) (session started : ℕ) (block skipping : Bool) (tx : Option TxId) (c : Command) →
      R s (after_command s session started block skipping tx c)
  command_row_kept s session started block skipping tx (command.Begin m timeout) = begins_kept s session started m timeout tx
  command_row_kept s session started block skipping tx (command.Sleep n) = sleeps_kept s session n
  command_row_kept s session started block skipping tx command.Commit = end_row_kept s session block command.Commit tx skipping
  command_row_kept s session started block skipping tx command.Rollback =
      end_row_kept s session block command.Rollback tx skipping
  command_row_kept s session started block skipping tx command.Close = end_row_kept s session block command.Close tx skipping
  command_row_kept s session started block skipping tx c = access_row_kept s session started block c tx skipping

  pub pends_kept : (s : NodeState) (session : ℕ) (c : Command) → R s (with_pending s session c)
  pends_kept s session c = on_session_state_kept R kit s session (λ (d : SessionState). record d { pending = Some c })
      (session_state_of s session)

  pub takes_kept : (s : NodeState) (session : ℕ) (d : SessionState) (c : Option Command) →
      R s (after_take_command s session d c)
  takes_kept s session d None = kit.nothing s
  takes_kept s session d (Some c) =
      kit.andthen s _ _ (pends_kept s session c)
      (kit.andthen _ _ _ (kit.noting (with_pending s session c) (note.Call session c) refl refl refl)
      (command_row_kept (with_note (with_pending s session c) (note.Call session c)) session d.started d.block d.skipping d.tx
      c))

  pub takes_at_kept : (s : NodeState) (session : ℕ) (d : Option SessionState) → R s (after_call_of s session d)
  takes_at_kept s session None = kit.nothing s
  takes_at_kept s session (Some d) = takes_kept s session d (command_to_give d)

  pub call_row_kept : (s : NodeState) (session : ℕ) → R s (after_call s session)
  call_row_kept s session = takes_at_kept s session (session_state_of s session)

  -- Answers.

  pub hands_kept : (s : NodeState) (session : ℕ) (a : Option Answer) → R s (after_hand_out s session a)
  hands_kept s session None = kit.nothing s
  hands_kept s session (Some a) =
      kit.andthen s _ _ (on_session_state_kept R kit s session (session_state_after_answer a) (session_state_of s session))
      (kit.noting (on_session_state s session (session_state_after_answer a) (session_state_of s session))
      (note.Answer session a) refl refl refl)

  pub hands_at_kept : (s : NodeState) (session : ℕ) (d : Option SessionState) → R s (after_answer_of s session d)
  hands_at_kept s session None = kit.nothing s
  hands_at_kept s session (Some d) = hands_kept s session (answer_to_give s d)

  pub answer_row_kept : (s : NodeState) (session : ℕ) → R s (after_answer s session)
  answer_row_kept s session = hands_at_kept s session (session_state_of s session)
