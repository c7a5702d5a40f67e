-- A backup's or mover's part in both phases extends the node.
use Rattle.std.proofs.Common.{List, Option, Some, None, Bool, true, false, refl}
use Rattle.act_rows.specs.Primary.{after_forget}
use Rattle.act_rows.specs.Steps.{backup_of, with_backup, with_out}
use Rattle.act_rows.specs.Stores.{after_apply_each}
use Rattle.ignite_types.specs.declared.message.Stored.{Stored}
use Rattle.ignite_types.specs.declared.names.NodeId.{NodeId}
use Rattle.ignite_types.specs.declared.names.TopVer.{TopVer}
use Rattle.ignite_types.specs.declared.names.TxId.{TxId}
use Rattle.ignite_types.specs.declared.placement.Share.{Share}
use Rattle.ignite_types.specs.declared.placement.ShareState.{ShareState}
use Rattle.ignite_types.specs.declared.placement.ShareState.TheVariants.{Committed, Prepared}
use Rattle.node_state.specs.Node.{NodeState}
use Rattle.node_state.specs.declared.primary.BackupShare.{BackupShare}
use Rattle.ignite_types.specs.declared.message.Message.TheVariants as msg
use Rattle.act_rows.specs.Backups.{after_backup_finish, after_backup_finish_in, after_backup_finish_of, after_backup_prepare, after_commit_backup, without_backup}
use Rattle.ignite_types.specs.declared.placement.ShareState.TheVariants.{Preparing, Undoing}
use Rattle.frame_laws.proofs.Primary.{forgetting_kept}
use Rattle.frame_laws.proofs.Steps.{with_backup_kept}
use Rattle.frame_laws.proofs.Stores.{applied_all_kept}
use Rattle.frame_laws.specs.Kits.{ClosedUnderWatchedSteps}
use Rattle.frame_laws.proofs.Kits.{sent_kept}

module _ {watched : Bool} (R : NodeState → NodeState → Type 0) (kit : ClosedUnderWatchedSteps watched R) where
  pub backup_prepare_row_kept : (s : NodeState) (from : NodeId) (tx : TxId) (top : TopVer) (shares : List Share)
      (primary : NodeId) (writes : List Stored) → R s (after_backup_prepare s from tx top shares primary writes)
  backup_prepare_row_kept s from tx top shares primary writes =
      let old = after_forget s tx in
      let share : BackupShare = record { top = top; shares = shares; writes = writes; state = Prepared } in
      let kept = with_backup old tx primary share in
      kit.andthen s kept (with_out kept from (msg.BackupPrepared tx))
      (kit.andthen s old kept (forgetting_kept R kit s tx) (with_backup_kept R kit old tx primary share))
      (sent_kept R kit kept from (msg.BackupPrepared tx) refl)

  pub commits_backup_kept : (s : NodeState) (tx : TxId) (primary : NodeId) (h : BackupShare) →
      R s (after_commit_backup s tx primary h)
  commits_backup_kept s tx primary h = let done = after_apply_each s tx h.top primary h.writes in
      kit.andthen s done (with_backup done tx primary (record h { state = Committed }))
      (applied_all_kept R kit s tx h.top primary h.writes)
      (with_backup_kept R kit done tx primary (record h { state = Committed }))

  pub drops_backup_kept : (s : NodeState) (tx : TxId) (primary : NodeId) → R s (without_backup s tx primary)
  drops_backup_kept s tx primary = kit.aside s (without_backup s tx primary) refl

  pub finishes_backup_kept : (s : NodeState) (tx : TxId) (primary : NodeId) (commit : Bool) (h : BackupShare)
      (st : ShareState) → R s (after_backup_finish_in s tx primary commit h st)
  finishes_backup_kept s tx primary true h Prepared = commits_backup_kept s tx primary h
  finishes_backup_kept s tx primary true h Preparing = kit.nothing s
  finishes_backup_kept s tx primary true h Committed = kit.nothing s
  finishes_backup_kept s tx primary true h Undoing = kit.nothing s
  finishes_backup_kept s tx primary false h st = drops_backup_kept s tx primary

  pub backup_finish_by_kept : (s : NodeState) (tx : TxId) (primary : NodeId) (commit : Bool) (share : Option BackupShare) →
      R s (after_backup_finish_of s tx primary commit share)
  backup_finish_by_kept s tx primary commit None = kit.nothing s
  backup_finish_by_kept s tx primary commit (Some h) = finishes_backup_kept s tx primary commit h h.state

  pub backup_finish_row_kept : (s : NodeState) (from : NodeId) (tx : TxId) (primary : NodeId) (commit : Bool) →
      R s (after_backup_finish s from tx primary commit)
  backup_finish_row_kept s from tx primary commit =
      let after = after_backup_finish_of s tx primary commit (backup_of s tx primary) in
      kit.andthen s after (with_out after from (msg.BackupFinished tx primary))
      (backup_finish_by_kept s tx primary commit (backup_of s tx primary))
      (sent_kept R kit after from (msg.BackupFinished tx primary) refl)
