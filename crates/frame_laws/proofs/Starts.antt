-- A first access or a commit starts: each step extends the node.
use Rattle.std.proofs.Common.{Bool, List, [], ◌∷◌, None, Option, Some, refl}
use Rattle.std.specs.Prelude.{ℕ}
use Rattle.frame_laws.proofs.Accesses.{does_kept}
use Rattle.frame_laws.proofs.Steps.{on_entry_kept}
use Rattle.act_rows.specs.Starts.{after_start, after_start_all, after_start_command, after_start_each, after_start_in, after_start_of, after_start_session, after_start_tx, sessions_of, takes_version, with_version}
use Rattle.act_rows.specs.Steps.{entry_of, is_open, session_state_of, with_note}
use Rattle.ignite_types.specs.declared.names.TopVer.{TopVer}
use Rattle.ignite_types.specs.declared.names.TxId.{TxId}
use Rattle.ignite_types.specs.declared.scenario.Command.{Command}
use Rattle.node_state.specs.declared.near.TxEntry.{TxEntry}
use Rattle.node_state.specs.declared.near.TxState.{TxState}
use Rattle.node_state.specs.Node.{NodeState}
use Rattle.node_state.specs.declared.session.SessionState.{SessionState}
use Rattle.ignite_types.specs.declared.journal.Rec.TheVariants as note
use Rattle.node_state.specs.declared.near.TxState.TheVariants as state
use Rattle.frame_laws.specs.Kits.{ClosedUnderWatchedSteps}
use Rattle.frame_laws.proofs.Kits.{either_kept}

module _ {watched : Bool} (R : NodeState → NodeState → Type 0) (kit : ClosedUnderWatchedSteps watched R) where
  pub fixes_version_kept : (s : NodeState) (tx : TxId) (top : TopVer) → R s (with_version s tx top)
  fixes_version_kept s tx top = on_entry_kept R kit s tx (λ (e : TxEntry). record e { top = Some top; state = state.Active })
      (entry_of s tx)

  pub starts_kept : (s : NodeState) (tx : TxId) (block : Bool) (c : Command) → R s (after_start s tx block c)
  starts_kept s tx block c =
      kit.andthen s _ _ (fixes_version_kept s tx s.seen)
      (kit.andthen _ _ _ (kit.noting (with_version s tx s.seen) (note.Start tx s.seen) refl refl refl)
      (does_kept R kit (with_note (with_version s tx s.seen) (note.Start tx s.seen)) tx s.seen block c))

  pub start_command_kept : (s : NodeState) (tx : TxId) (block : Bool) (c : Option Command) →
      R s (after_start_command s tx block c)
  start_command_kept s tx block None = kit.nothing s
  start_command_kept s tx block (Some c) = either_kept R kit s _ _ (takes_version c) (starts_kept s tx block c) (kit.nothing s)

  pub start_in_kept : (s : NodeState) (tx : TxId) (d : SessionState) (st : TxState) → R s (after_start_in s tx d st)
  start_in_kept s tx d state.Idle = start_command_kept s tx d.block d.pending
  start_in_kept s tx d _ = kit.nothing s

  pub start_of_kept : (s : NodeState) (tx : TxId) (d : SessionState) (e : Option TxEntry) → R s (after_start_of s tx d e)
  start_of_kept s tx d None = kit.nothing s
  start_of_kept s tx d (Some e) = start_in_kept s tx d e.state

  pub start_tx_kept : (s : NodeState) (d : SessionState) (tx : Option TxId) → R s (after_start_tx s d tx)
  start_tx_kept s d None = kit.nothing s
  start_tx_kept s d (Some tx) = start_of_kept s tx d (entry_of s tx)

  pub start_session_state_kept : (s : NodeState) (d : Option SessionState) → R s (after_start_session s d)
  start_session_state_kept s None = kit.nothing s
  start_session_state_kept s (Some d) = start_tx_kept s d d.tx

  pub start_each_kept : (s : NodeState) (sessions : List ℕ) → R s (after_start_each s sessions)
  start_each_kept s [] = kit.nothing s
  start_each_kept s (session ∷ more) =
      kit.andthen s _ _ (start_session_state_kept s (session_state_of s session))
      (start_each_kept (after_start_session s (session_state_of s session)) more)

  pub starts_all_kept : (s : NodeState) → R s (after_start_all s)
  starts_all_kept s = either_kept R kit s _ _ (is_open s s.opened) (start_each_kept s (sessions_of s)) (kit.nothing s)
