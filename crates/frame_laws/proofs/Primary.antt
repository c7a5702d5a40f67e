-- A primary's part in both phases extends the node.
use Rattle.std.proofs.Common.{◌++◌, List, [], ◌∷◌, Option, Some, None, Bool, true, false, refl, ◌≡◌}
use Rattle.std.specs.Prelude.{ℕ}
use Rattle.act_rows.specs.Decisions.{backup_finish_outs}
use Rattle.act_rows.specs.Locks.{after_own_each, after_release_all}
use Rattle.act_rows.specs.Steps.{on_share, outs_to, share_of, with_out, with_outs, with_share}
use Rattle.act_rows.specs.Stores.{after_apply_each}
use Rattle.part_model.specs.NearEntries.{without_reader}
use Rattle.ignite_types.specs.Names.{node_cmp, same_node, tx_cmp}
use Rattle.ignite_types.specs.declared.answer.Fail.{Fail}
use Rattle.ignite_types.specs.declared.message.Stored.{Stored}
use Rattle.ignite_types.specs.declared.message.Wanted.{Wanted}
use Rattle.ignite_types.specs.declared.names.NodeId.{NodeId}
use Rattle.ignite_types.specs.declared.names.TopVer.{TopVer}
use Rattle.ignite_types.specs.declared.names.TxId.{TxId}
use Rattle.ignite_types.specs.declared.placement.Share.{Share}
use Rattle.ignite_types.specs.declared.placement.ShareState.{ShareState}
use Rattle.ignite_types.specs.declared.placement.ShareState.TheVariants.{Committed, Prepared, Preparing, Undoing}
use Rattle.ignite_types.specs.declared.scenario.Mode.{Mode}
use Rattle.ignite_types.specs.declared.text.Key.{Key}
use Rattle.node_state.specs.Node.{NodeState}
use Rattle.node_state.specs.declared.primary.NearWait.{NearWait}
use Rattle.node_state.specs.declared.primary.OwnShare.{OwnShare}
use Rattle.ordered_set.specs.Members.{with_member, without_member}
use Rattle.ordered_table.specs.Entries.{without}
use Rattle.ignite_types.specs.declared.scenario.Mode.TheVariants as mode
use Rattle.ignite_types.specs.declared.message.Message.TheVariants as msg
use Rattle.act_rows.specs.Primary.{after_advance_share, after_advance_share_in, after_advance_shares, after_backup_finished_at_primary, after_backup_finished_in, after_backup_finished_of, after_backup_prepared, after_backup_prepared_in, after_backup_prepared_of, after_begin_share, after_check, after_commit_share, after_draw, after_end_finish, after_finish, after_finish_at, after_finish_in, after_finish_of, after_finished_share, after_forget, after_left_at_primary, after_left_at_shares, after_near_done, after_prepare, after_prepare_in, after_share_prepared, after_undo_share, backup_prepare_outs, backups_for, drawn_writes, failed_check, last_drawn, near_outs, near_wait_cmp, near_waits, new_share, own_txs, share_without_node, with_asker, with_finish_begun, with_finish_ended}
use Rattle.frame_laws.proofs.Locks.{owns_each_kept, releases_kept}
use Rattle.frame_laws.proofs.Steps.{on_share_kept, with_share_kept}
use Rattle.frame_laws.proofs.Stores.{applied_all_kept}
use Rattle.frame_laws.proofs.Plain.{both_plain, to_plain, near_plain, backup_prepare_plain}
use Rattle.frame_laws.specs.Kits.{ClosedUnderWatchedSteps}
use Rattle.frame_laws.proofs.Kits.{either_kept, sent_kept}
use Rattle.act_rows.specs.Primary.{first_changed, wanted_keys}
use Rattle.part_model.specs.Queues.{first_blocked}
use Rattle.frame_laws.proofs.Owners.{unblocked}

module _ {watched : Bool} (R : NodeState → NodeState → Type 0) (kit : ClosedUnderWatchedSteps watched R) where
  pub forgetting_kept : (s : NodeState) (tx : TxId) → R s (after_forget s tx)
  forgetting_kept s tx = kit.aside s (after_forget s tx) refl

  pub begins_share_kept : (s : NodeState) (tx : TxId) (top : TopVer) (shares : List Share) (writes : List Stored)
      (nodes : List NodeId) → R s (after_begin_share s tx top shares writes nodes)
  begins_share_kept s tx top shares writes nodes =
      kit.andthen s (with_share s tx (new_share top shares writes nodes)) (after_begin_share s tx top shares writes nodes)
      (with_share_kept R kit s tx (new_share top shares writes nodes))
      (kit.sent_all (with_share s tx (new_share top shares writes nodes)) (backup_prepare_outs s tx top shares writes nodes)
      (backup_prepare_plain s tx top shares writes nodes))

  pub draws_kept : (s : NodeState) (tx : TxId) (top : TopVer) (shares : List Share) (writes : List (Key × Option (List ℕ))) →
      R s (after_draw s tx top shares writes)
  draws_kept s tx top shares writes =
      kit.andthen s (record s { order = last_drawn s.order writes }) (after_draw s tx top shares writes)
      (kit.aside s (record s { order = last_drawn s.order writes }) refl)
      (begins_share_kept (record s { order = last_drawn s.order writes }) tx top shares
      (drawn_writes top s.me s.order writes) (backups_for s shares))

  pub checked_kept : (s : NodeState) (from : NodeId) (tx : TxId) (top : TopVer) (shares : List Share) (wanted : List Wanted)
      (writes : List (Key × Option (List ℕ))) (why : Option Fail) → failed_check s tx wanted ≡ why →
      R s (after_check s from tx top shares wanted writes why)
  checked_kept s from tx top shares wanted writes None passed =
      kit.andthen s (after_own_each s tx top wanted) (after_draw (after_own_each s tx top wanted) tx top shares writes)
      (owns_each_kept R kit s tx top wanted (unblocked (first_blocked s.queues (wanted_keys wanted) tx)
      (first_changed s wanted) passed))
      (draws_kept (after_own_each s tx top wanted) tx top shares writes)
  checked_kept s from tx top shares wanted writes (Some why) refused = sent_kept R kit s from (msg.PrepareFail tx why) refl

  pub prepare_in_kept : (s : NodeState) (from : NodeId) (tx : TxId) (top : TopVer) (how : Mode) (shares : List Share)
      (wanted : List Wanted) (writes : List (Key × Option (List ℕ))) →
      R s (after_prepare_in s from tx top how shares wanted writes)
  prepare_in_kept s from tx top mode.Pessimistic shares wanted writes = draws_kept s tx top shares writes
  prepare_in_kept s from tx top mode.Optimistic shares wanted writes = checked_kept s from tx top shares wanted writes
      (failed_check s tx wanted) refl

  pub prepare_row_kept : (s : NodeState) (from : NodeId) (tx : TxId) (top : TopVer) (how : Mode) (shares : List Share)
      (wanted : List Wanted) (writes : List (Key × Option (List ℕ))) →
      R s (after_prepare s from tx top how shares wanted writes)
  prepare_row_kept s from tx top how shares wanted writes =
      kit.andthen s (after_forget s tx) (after_prepare_in (after_forget s tx) from tx top how shares wanted writes)
      (forgetting_kept s tx)
      (prepare_in_kept (after_forget s tx) from tx top how shares wanted writes)

  pub backup_prepared_in_kept : (s : NodeState) (from : NodeId) (tx : TxId) (st : ShareState) →
      R s (after_backup_prepared_in s from tx st)
  backup_prepared_in_kept s from tx Preparing =
      on_share_kept R kit s tx (λ (h : OwnShare). record h { awaited = without_member node_cmp h.awaited from }) (share_of s tx)
  backup_prepared_in_kept s from tx Prepared = kit.nothing s
  backup_prepared_in_kept s from tx Committed = kit.nothing s
  backup_prepared_in_kept s from tx Undoing = kit.nothing s

  pub backup_prepared_by_kept : (s : NodeState) (from : NodeId) (tx : TxId) (share : Option OwnShare) →
      R s (after_backup_prepared_of s from tx share)
  backup_prepared_by_kept s from tx None = kit.nothing s
  backup_prepared_by_kept s from tx (Some h) = backup_prepared_in_kept s from tx h.state

  pub backup_prepared_row_kept : (s : NodeState) (from : NodeId) (tx : TxId) → R s (after_backup_prepared s from tx)
  backup_prepared_row_kept s from tx = backup_prepared_by_kept s from tx (share_of s tx)

  pub begins_finish_kept : (s : NodeState) (tx : TxId) (st : ShareState) (from : NodeId) (nodes : List NodeId)
      (near : List NearWait) → R s (with_finish_begun s tx st from nodes near)
  begins_finish_kept s tx st from nodes near =
      on_share_kept R kit s tx (λ (h : OwnShare). record h { state = st; awaited = nodes; near = near; askers = from ∷ [] })
      (share_of s tx)

  pub commits_share_kept : (s : NodeState) (from : NodeId) (tx : TxId) (h : OwnShare) (nodes : List NodeId) →
      R s (after_commit_share s from tx h nodes)
  commits_share_kept s from tx h nodes =
      let done = after_apply_each s tx h.top s.me h.writes in
      let begun = with_finish_begun done tx Committed from nodes (near_waits s h.writes) in
      let outs = backup_finish_outs tx s.me true nodes ++ near_outs s tx h.writes in
      kit.andthen s begun (with_outs begun outs)
      (kit.andthen s done begun
      (applied_all_kept R kit s tx h.top s.me h.writes)
      (begins_finish_kept done tx Committed from nodes (near_waits s h.writes)))
      (kit.sent_all begun outs (both_plain (backup_finish_outs tx s.me true nodes) (near_outs s tx h.writes)
      (to_plain nodes (msg.BackupFinish tx s.me true) refl) (near_plain s tx h.writes)))

  pub undoes_share_kept : (s : NodeState) (from : NodeId) (tx : TxId) (nodes : List NodeId) →
      R s (after_undo_share s from tx nodes)
  undoes_share_kept s from tx nodes =
      kit.andthen s (with_finish_begun s tx Undoing from nodes []) (after_undo_share s from tx nodes)
      (begins_finish_kept s tx Undoing from nodes [])
      (kit.sent_all (with_finish_begun s tx Undoing from nodes []) (backup_finish_outs tx s.me false nodes)
      (to_plain nodes (msg.BackupFinish tx s.me false) refl))

  pub finishing_kept : (s : NodeState) (from : NodeId) (tx : TxId) (commit : Bool) (h : OwnShare) (st : ShareState) →
      R s (after_finish_in s from tx commit h st)
  finishing_kept s from tx true h Prepared = commits_share_kept s from tx h (backups_for s h.shares)
  finishing_kept s from tx true h Preparing = sent_kept R kit s from (msg.Finished tx) refl
  finishing_kept s from tx true h Committed = sent_kept R kit s from (msg.Finished tx) refl
  finishing_kept s from tx true h Undoing = sent_kept R kit s from (msg.Finished tx) refl
  finishing_kept s from tx false h Prepared = undoes_share_kept s from tx (backups_for s h.shares)
  finishing_kept s from tx false h Preparing = undoes_share_kept s from tx (backups_for s h.shares)
  finishing_kept s from tx false h Committed = sent_kept R kit s from (msg.Finished tx) refl
  finishing_kept s from tx false h Undoing = sent_kept R kit s from (msg.Finished tx) refl

  pub adds_asker_kept : (s : NodeState) (tx : TxId) (from : NodeId) → R s (with_asker s tx from)
  adds_asker_kept s tx from =
      on_share_kept R kit s tx (λ (h : OwnShare). record h { askers = with_member node_cmp h.askers from }) (share_of s tx)

  pub finish_at_kept : (s : NodeState) (from : NodeId) (tx : TxId) (commit : Bool) (h : OwnShare) (askers : List NodeId) →
      R s (after_finish_at s from tx commit h askers)
  finish_at_kept s from tx commit h [] = finishing_kept s from tx commit h h.state
  finish_at_kept s from tx commit h (asker ∷ more) = adds_asker_kept s tx from

  pub finish_of_kept : (s : NodeState) (from : NodeId) (tx : TxId) (commit : Bool) (share : Option OwnShare) →
      R s (after_finish_of s from tx commit share)
  finish_of_kept s from tx commit None =
      kit.andthen s (after_release_all s tx) (with_out (after_release_all s tx) from (msg.Finished tx))
      (releases_kept R kit s tx)
      (sent_kept R kit (after_release_all s tx) from (msg.Finished tx) refl)
  finish_of_kept s from tx commit (Some h) = finish_at_kept s from tx commit h h.askers

  pub finish_row_kept : (s : NodeState) (from : NodeId) (tx : TxId) (commit : Bool) → R s (after_finish s from tx commit)
  finish_row_kept s from tx commit = finish_of_kept s from tx commit (share_of s tx)

  pub backup_finished_at_kept : (s : NodeState) (from : NodeId) (tx : TxId) (askers : List NodeId) →
      R s (after_backup_finished_in s from tx askers)
  backup_finished_at_kept s from tx [] = kit.nothing s
  backup_finished_at_kept s from tx (asker ∷ more) =
      on_share_kept R kit s tx (λ (h : OwnShare). record h { awaited = without_member node_cmp h.awaited from }) (share_of s tx)

  pub backup_finished_by_kept : (s : NodeState) (from : NodeId) (tx : TxId) (share : Option OwnShare) →
      R s (after_backup_finished_of s from tx share)
  backup_finished_by_kept s from tx None = kit.nothing s
  backup_finished_by_kept s from tx (Some h) = backup_finished_at_kept s from tx h.askers

  pub own_backup_finished_kept : (s : NodeState) (from : NodeId) (tx : TxId) (primary : NodeId) →
      R s (after_backup_finished_at_primary s from tx primary)
  own_backup_finished_kept s from tx primary =
      either_kept R kit s (after_backup_finished_of s from tx (share_of s tx)) s (same_node primary s.me)
      (backup_finished_by_kept s from tx (share_of s tx))
      (kit.nothing s)

  pub near_done_row_kept : (s : NodeState) (from : NodeId) (tx : TxId) (key : Key) → R s (after_near_done s from tx key)
  near_done_row_kept s from tx key = on_share_kept R kit s tx (λ (h : OwnShare). record h {
    near = without_member near_wait_cmp h.near (record { key = key; node = from });
  }) (share_of s tx)

  pub ends_finish_kept : (s : NodeState) (tx : TxId) → R s (with_finish_ended s tx)
  ends_finish_kept s tx = on_share_kept R kit s tx (λ (h : OwnShare). record h { askers = [] }) (share_of s tx)

  pub share_after_kept : (s : NodeState) (tx : TxId) (st : ShareState) → R s (after_finished_share s tx st)
  share_after_kept s tx Undoing = kit.aside s (record s { shares = without tx_cmp s.shares tx }) refl
  share_after_kept s tx Preparing = ends_finish_kept s tx
  share_after_kept s tx Prepared = ends_finish_kept s tx
  share_after_kept s tx Committed = ends_finish_kept s tx

  pub finish_over_kept : (s : NodeState) (tx : TxId) (h : OwnShare) → R s (after_end_finish s tx h)
  finish_over_kept s tx h =
      let left = after_release_all s tx in
      let after = after_finished_share left tx h.state in
      kit.andthen s after (with_outs after (outs_to h.askers (msg.Finished tx)))
      (kit.andthen s left after (releases_kept R kit s tx) (share_after_kept left tx h.state))
      (kit.sent_all after (outs_to h.askers (msg.Finished tx)) (to_plain h.askers (msg.Finished tx) refl))

  pub is_prepared_kept : (s : NodeState) (tx : TxId) → R s (after_share_prepared s tx)
  is_prepared_kept s tx =
      let after = on_share s tx (λ (h : OwnShare). record h { state = Prepared }) (share_of s tx) in
      kit.andthen s after (with_out after tx.node (msg.Prepared tx))
      (on_share_kept R kit s tx (λ (h : OwnShare). record h { state = Prepared }) (share_of s tx))
      (sent_kept R kit after tx.node (msg.Prepared tx) refl)

  pub goes_on_kept : (s : NodeState) (tx : TxId) (h : OwnShare) (awaited : List NodeId) (near : List NearWait)
      (askers : List NodeId) (st : ShareState) → R s (after_advance_share_in s tx h awaited near askers st)
  goes_on_kept s tx h [] [] (asker ∷ more) st = finish_over_kept s tx h
  goes_on_kept s tx h [] [] [] Preparing = is_prepared_kept s tx
  goes_on_kept s tx h [] [] [] Prepared = kit.nothing s
  goes_on_kept s tx h [] [] [] Committed = kit.nothing s
  goes_on_kept s tx h [] [] [] Undoing = kit.nothing s
  goes_on_kept s tx h [] (wait ∷ waits) [] Preparing = is_prepared_kept s tx
  goes_on_kept s tx h [] (wait ∷ waits) [] Prepared = kit.nothing s
  goes_on_kept s tx h [] (wait ∷ waits) [] Committed = kit.nothing s
  goes_on_kept s tx h [] (wait ∷ waits) [] Undoing = kit.nothing s
  goes_on_kept s tx h [] (wait ∷ waits) (asker ∷ more) st = kit.nothing s
  goes_on_kept s tx h (first ∷ rest) near askers st = kit.nothing s

  pub share_on_kept : (s : NodeState) (tx : TxId) (share : Option OwnShare) → R s (after_advance_share s tx share)
  share_on_kept s tx None = kit.nothing s
  share_on_kept s tx (Some h) = goes_on_kept s tx h h.awaited h.near h.askers h.state

  pub shares_on_kept : (s : NodeState) (txs : List TxId) → R s (after_advance_shares s txs)
  shares_on_kept s [] = kit.nothing s
  shares_on_kept s (tx ∷ txs) = let next = after_advance_share s tx (share_of s tx) in
      kit.andthen s next (after_advance_shares next txs) (share_on_kept s tx (share_of s tx)) (shares_on_kept next txs)

  pub shares_left_kept : (s : NodeState) (id : NodeId) (txs : List TxId) → R s (after_left_at_shares s id txs)
  shares_left_kept s id [] = kit.nothing s
  shares_left_kept s id (tx ∷ txs) = let next = on_share s tx (share_without_node id) (share_of s tx) in
      kit.andthen s next (after_left_at_shares next id txs) (on_share_kept R kit s tx (share_without_node id) (share_of s tx))
      (shares_left_kept next id txs)

  pub primary_left_kept : (s : NodeState) (id : NodeId) → R s (after_left_at_primary s id)
  primary_left_kept s id = let here = after_left_at_shares s id (own_txs s) in
      kit.andthen s here (record here { readers = without_reader here.readers id })
      (shares_left_kept s id (own_txs s))
      (kit.aside here (record here { readers = without_reader here.readers id }) refl)
