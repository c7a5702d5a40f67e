-- The small steps on tables, and the message to the oldest member, extend the node.
use Rattle.act_rows.specs.Steps.{on_entry, on_session_state, on_share, session_state_of, with_answer_ready, with_backup, with_entry, with_near, with_out_to_oldest, with_session_state, with_share}
use Rattle.part_model.specs.Links.{oldest_in}
use Rattle.part_model.specs.NearEntries.{NearCache}
use Rattle.ignite_types.specs.declared.answer.Answer.{Answer}
use Rattle.ignite_types.specs.declared.message.Message.{Message}
use Rattle.ignite_types.specs.declared.names.NodeId.{NodeId}
use Rattle.ignite_types.specs.declared.names.TxId.{TxId}
use Rattle.ignite_types.specs.declared.text.Key.{Key}
use Rattle.node_state.specs.declared.near.TxEntry.{TxEntry}
use Rattle.node_state.specs.Node.{NodeState}
use Rattle.node_state.specs.declared.primary.BackupShare.{BackupShare}
use Rattle.node_state.specs.declared.primary.OwnShare.{OwnShare}
use Rattle.node_state.specs.declared.session.SessionState.{SessionState}
use Rattle.std.proofs.Common.{Bool, ◌≡◌, None, Option, Some, true, refl}
use Rattle.std.specs.Prelude.{ℕ}
use Rattle.frame_laws.specs.Kits.{ClosedUnderWatchedSteps, is_plain_message}
use Rattle.frame_laws.proofs.Kits.{sent_kept}

module _ {watched : Bool} (R : NodeState → NodeState → Type 0) (kit : ClosedUnderWatchedSteps watched R) where
  pub with_session_state_kept : (s : NodeState) (session : ℕ) (session_state : SessionState) →
      R s (with_session_state s session session_state)
  with_session_state_kept s session session_state = kit.aside s (with_session_state s session session_state) refl

  pub on_session_state_kept : (s : NodeState) (session : ℕ) (f : SessionState → SessionState) (d : Option SessionState) →
      R s (on_session_state s session f d)
  on_session_state_kept s session f None = kit.nothing s
  on_session_state_kept s session f (Some session_state) = with_session_state_kept s session (f session_state)

  pub with_entry_kept : (s : NodeState) (tx : TxId) (entry : TxEntry) → R s (with_entry s tx entry)
  with_entry_kept s tx entry = kit.aside s (with_entry s tx entry) refl

  pub on_entry_kept : (s : NodeState) (tx : TxId) (f : TxEntry → TxEntry) (e : Option TxEntry) → R s (on_entry s tx f e)
  on_entry_kept s tx f None = kit.nothing s
  on_entry_kept s tx f (Some entry) = with_entry_kept s tx (f entry)

  pub with_near_kept : (s : NodeState) (key : Key) (near : NearCache) → R s (with_near s key near)
  with_near_kept s key near = kit.aside s (with_near s key near) refl

  pub answered_kept : (s : NodeState) (session : ℕ) (a : Answer) → R s (with_answer_ready s session a)
  answered_kept s session a = on_session_state_kept s session (λ (d : SessionState). record d { ready = Some a })
      (session_state_of s session)

  pub with_share_kept : (s : NodeState) (tx : TxId) (share : OwnShare) → R s (with_share s tx share)
  with_share_kept s tx share = kit.aside s (with_share s tx share) refl

  pub on_share_kept : (s : NodeState) (tx : TxId) (f : OwnShare → OwnShare) (share : Option OwnShare) →
      R s (on_share s tx f share)
  on_share_kept s tx f None = kit.nothing s
  on_share_kept s tx f (Some share) = with_share_kept s tx (f share)

  pub with_backup_kept : (s : NodeState) (tx : TxId) (primary : NodeId) (share : BackupShare) →
      R s (with_backup s tx primary share)
  with_backup_kept s tx primary share = kit.aside s (with_backup s tx primary share) refl

  pub sent_to_oldest_kept : (s : NodeState) (m : Message) (to : Option NodeId) → is_plain_message m ≡ true →
      R s (with_out_to_oldest s m to)
  sent_to_oldest_kept s m None plain = kit.nothing s
  sent_to_oldest_kept s m (Some oldest_in) plain = sent_kept R kit s oldest_in m plain
