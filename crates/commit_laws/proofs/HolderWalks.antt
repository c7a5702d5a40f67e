-- What primaries, backups, movers, recoverers and the exchange do: each step keeps what the small steps keep.
use Rattle.act_rows.specs.Backups.{after_backup_finish, after_backup_finish_in, after_backup_finish_of, after_backup_prepare, after_commit_backup, without_backup}
use Rattle.act_rows.specs.Closing.{after_advance_starter, after_closing_rules, after_send_single, after_single_if_drained, owes_single}
use Rattle.act_rows.specs.Decisions.{backup_finish_outs, finishes_for_lost, orphaned_shares}
use Rattle.act_rows.specs.Exchange.{after_compute, after_compute_if_all, after_count, after_count_installed, after_full, after_install, after_installed, after_learn, after_open_for_all, after_open_if_all, after_opens, after_send_demands, after_single, all_installed, demand_outs, is_kept_commit, is_newer_map, kept_copies, may_compute, next_map_seen, others_seen, without_single, without_singles}
use Rattle.act_rows.specs.Filling.{after_claim_if_all, after_complete, after_complete_part, after_demand, after_supplied, after_supply, all_filled, last_key, with_copy}
use Rattle.act_rows.specs.Locks.{after_edges, after_get, after_grant, after_leave, after_lock, after_lock_behind, after_own_each, after_pass_on, after_release, after_release_all, after_release_each, is_owner, owner_at, with_queued, with_reader_if}
use Rattle.act_rows.specs.Primary.{after_advance_share, after_advance_share_in, after_advance_shares, after_backup_finished_at_primary, after_backup_finished_in, after_backup_finished_of, after_backup_prepared, after_backup_prepared_in, after_backup_prepared_of, after_begin_share, after_check, after_commit_share, after_draw, after_end_finish, after_finish, after_finish_at, after_finish_in, after_finish_of, after_finished_share, after_forget, after_left_at_primary, after_left_at_shares, after_near_done, after_prepare, after_prepare_in, after_share_prepared, after_undo_share, backup_prepare_outs, backups_for, drawn_writes, failed_check, last_drawn, near_outs, near_wait_cmp, near_waits, new_share, own_txs, share_without_node, with_asker, with_finish_begun, with_finish_ended}
use Rattle.act_rows.specs.Recovery.{after_act_on_round, after_backup_finished_at_recoverer, after_begin_round, after_finished_at_recoverer, after_give_verdict, after_judge, after_judge_each, after_orphans, after_recover_if_all, after_recover_with, after_send_orphans, all_reported, backup_wait_cmp, finish_nodes, finish_wait_cmp, is_recoverer, lockers, names_of, on_round, orphans_for, orphans_message, primaries_of, reports_for, with_backup_waits, with_finish_waits, with_new_round, with_report, with_round_acted, with_verdict_awaited}
use Rattle.act_rows.specs.Starts.{after_start_all}
use Rattle.act_rows.specs.Steps.{backup_cmp, backup_of, installed_top, is_installed, lost_among, oldest_seen, on_share, outs_to, rows_of, share_of, with_backup, with_note, with_out, with_out_to_oldest, with_outs, with_share}
use Rattle.act_rows.specs.Stores.{after_apply_each, found_at, with_stored}
use Rattle.commit_laws.proofs.StarterWalks.{either_kept, near_on_kept, on_share_kept, sent_kept, sent_to_oldest_kept, starts_all_kept, with_backup_kept, with_share_kept}
use Rattle.commit_laws.proofs.TameMessages.{backup_prepare_tame, both_end, demands_tame, ends_own, lost_end, near_tame, tame_end, to_end, to_tame}
use Rattle.commit_laws.specs.CommitSteps.{CommitKit, is_end_of}
use Rattle.ignite_types.specs.Names.{node_cmp, same_node, same_top, tx_cmp}
use Rattle.ignite_types.specs.declared.answer.Fail.{Fail}
use Rattle.ignite_types.specs.declared.journal.TopoEvent.{TopoEvent}
use Rattle.ignite_types.specs.declared.message.Message.{Message}
use Rattle.ignite_types.specs.declared.message.Orphan.{Orphan}
use Rattle.ignite_types.specs.declared.message.Out.{Out}
use Rattle.ignite_types.specs.declared.message.Stored.{Stored}
use Rattle.ignite_types.specs.declared.message.Wanted.{Wanted}
use Rattle.ignite_types.specs.declared.names.NodeId.{NodeId}
use Rattle.ignite_types.specs.declared.names.TopVer.{TopVer}
use Rattle.ignite_types.specs.declared.names.TxId.{TxId}
use Rattle.ignite_types.specs.declared.placement.PartMap.{PartMap}
use Rattle.ignite_types.specs.declared.placement.Share.{Share}
use Rattle.ignite_types.specs.declared.placement.ShareState.{ShareState}
use Rattle.ignite_types.specs.declared.placement.ShareState.TheVariants.{Committed, Prepared, Preparing, Undoing}
use Rattle.ignite_types.specs.declared.scenario.Member.{Member}
use Rattle.ignite_types.specs.declared.scenario.Mode.{Mode}
use Rattle.ignite_types.specs.declared.text.Key.{Key}
use Rattle.node_state.specs.Node.{NodeState}
use Rattle.node_state.specs.declared.primary.BackupName.{BackupName}
use Rattle.node_state.specs.declared.primary.BackupShare.{BackupShare}
use Rattle.node_state.specs.declared.primary.NearWait.{NearWait}
use Rattle.node_state.specs.declared.primary.OwnShare.{OwnShare}
use Rattle.node_state.specs.declared.topology.Exchange.{Exchange}
use Rattle.node_state.specs.declared.topology.Report.{Report}
use Rattle.node_state.specs.declared.topology.Round.{Round}
use Rattle.ordered_set.specs.Members.{with_member, without_member}
use Rattle.ordered_table.specs.Entries.{at, put, without}
use Rattle.part_model.specs.Copies.{Copy, batch_of, batch_size, copy_after_supply, copy_at, is_last_batch, without_tombstones}
use Rattle.part_model.specs.NearEntries.{with_reader, without_reader}
use Rattle.part_model.specs.Queues.{edges_of, keys_queued_for}
use Rattle.part_model.specs.Tables.{keys_where, without_each}
use Rattle.part_model.specs.Verdicts.{is_settled, shares_named, verdict}
use Rattle.std.proofs.Common.{Bool, List, None, Option, Some, [], false, refl, true, ◌++◌, ◌∷◌, ◌≡◌}
use Rattle.std.specs.List.{list_all}
use Rattle.std.specs.Ordering.{nat_cmp}
use Rattle.std.specs.Prelude.{not, ℕ, ◌&&◌, ◌++◌}
use Rattle.ignite_types.specs.declared.journal.Rec.TheVariants as note
use Rattle.ignite_types.specs.declared.message.Message.TheVariants as msg
use Rattle.ignite_types.specs.declared.scenario.Mode.TheVariants as mode

module _ (Known : TxId → Type 0) (R : NodeState → NodeState → Type 0) (kit : CommitKit Known R) where
  grants_kept : (s : NodeState) (to : NodeId) (tx : TxId) (top : TopVer) (key : Key) → R s (after_grant s to tx top key)
  grants_kept s to tx top key =
      let noted = with_note s (note.Grant tx top key) in
      kit.andthen s noted (after_grant s to tx top key) (kit.noting s (note.Grant tx top key) refl)
      (sent_kept Known R kit noted to (msg.LockOk tx key (found_at noted key)) refl)

  lock_behind_kept : (s : NodeState) (from : NodeId) (tx : TxId) (top : TopVer) (key : Key) (owner : Option TxId) →
      R s (after_lock_behind s from tx top key owner)
  lock_behind_kept s from tx top key None =
      kit.andthen s (with_queued s tx key) (after_grant (with_queued s tx key) from tx top key)
      (kit.aside s (with_queued s tx key) refl) (grants_kept (with_queued s tx key) from tx top key)
  lock_behind_kept s from tx top key (Some owner) =
      kit.andthen s (with_queued s tx key) (with_note (with_queued s tx key) (note.Queue tx key owner))
      (kit.aside s (with_queued s tx key) refl) (kit.noting (with_queued s tx key) (note.Queue tx key owner) refl)

  pub lock_row_kept : (s : NodeState) (from : NodeId) (tx : TxId) (top : TopVer) (key : Key) →
      R s (after_lock s from tx top key)
  lock_row_kept s from tx top key = lock_behind_kept s from tx top key (owner_at s key)

  passes_on_kept : (s : NodeState) (key : Key) (was_owner : Bool) (owner : Option TxId) →
      R s (after_pass_on s key was_owner owner)
  passes_on_kept s key true (Some next) = grants_kept s next.node next (installed_top s) key
  passes_on_kept s key true None = kit.nothing s
  passes_on_kept s key false owner = kit.nothing s

  pub released_kept : (s : NodeState) (tx : TxId) (key : Key) → R s (after_release s tx key)
  released_kept s tx key =
      let left = after_leave s tx key in
      let noted = with_note left (note.Drop tx key) in
      kit.andthen s left (after_release s tx key) (kit.aside s left refl)
      (kit.andthen left noted (after_release s tx key) (kit.noting left (note.Drop tx key) refl)
      (passes_on_kept noted key (is_owner tx (owner_at s key)) (owner_at noted key)))

  pub released_all_kept : (s : NodeState) (tx : TxId) (keys : List Key) → R s (after_release_each s tx keys)
  released_all_kept s tx [] = kit.nothing s
  released_all_kept s tx (key ∷ keys) =
      kit.andthen s (after_release s tx key) (after_release_each (after_release s tx key) tx keys)
      (released_kept s tx key)
      (released_all_kept (after_release s tx key) tx keys)

  pub releases_kept : (s : NodeState) (tx : TxId) → R s (after_release_all s tx)
  releases_kept s tx = released_all_kept s tx (keys_queued_for s.queues tx)

  pub owns_each_kept : (s : NodeState) (tx : TxId) (top : TopVer) (ws : List Wanted) → R s (after_own_each s tx top ws)
  owns_each_kept s tx top [] = kit.nothing s
  owns_each_kept s tx top (w ∷ ws) =
      let queued = with_queued s tx w.key in
      let next = with_note queued (note.Grant tx top w.key) in
      kit.andthen s next (after_own_each next tx top ws)
      (kit.andthen s queued next (kit.aside s queued refl) (kit.noting queued (note.Grant tx top w.key) refl))
      (owns_each_kept next tx top ws)

  pub reads_for_kept : (s : NodeState) (from : NodeId) (near : Bool) (key : Key) → R s (with_reader_if s from near key)
  reads_for_kept s from true key = kit.aside s (record s { readers = with_reader s.readers key from }) refl
  reads_for_kept s from false key = kit.nothing s

  pub get_row_kept : (s : NodeState) (from : NodeId) (tx : TxId) (key : Key) (near : Bool) → R s (after_get s from tx key near)
  get_row_kept s from tx key near =
      kit.andthen s (with_reader_if s from near key) (after_get s from tx key near)
      (reads_for_kept s from near key)
      (sent_kept Known R kit (with_reader_if s from near key) from (msg.GetOk tx key (found_at s key)) refl)

  pub edges_row_kept : (s : NodeState) (from : NodeId) (tx : TxId) (round : ℕ) (txs : List TxId) →
      R s (after_edges s from tx round txs)
  edges_row_kept s from tx round txs = let waits = edges_of s.queues txs in
      kit.andthen s (with_note s (note.Waits tx round waits)) (with_out (with_note s (note.Waits tx round waits)) from
      (msg.EdgesOk tx round s.acts waits))
      (kit.noting s (note.Waits tx round waits) refl)
      (sent_kept Known R kit (with_note s (note.Waits tx round waits)) from (msg.EdgesOk tx round s.acts waits) refl)

  pub applied_all_kept : (s : NodeState) (tx : TxId) (top : TopVer) (primary : NodeId) (ws : List Stored) → Known tx →
      R s (after_apply_each s tx top primary ws)
  applied_all_kept s tx top primary [] known = kit.nothing s
  applied_all_kept s tx top primary (w ∷ ws) known =
      let next = with_note (with_stored s w) (note.Apply tx top primary w.key w.value w.ver) in
      kit.andthen s next (after_apply_each next tx top primary ws)
      (kit.applied s tx top primary w known)
      (applied_all_kept next tx top primary ws known)

  pub forgetting_kept : (s : NodeState) (tx : TxId) → R s (after_forget s tx)
  forgetting_kept s tx = kit.aside s (after_forget s tx) refl

  pub begins_share_kept : (s : NodeState) (tx : TxId) (top : TopVer) (shares : List Share) (writes : List Stored)
      (nodes : List NodeId) → R s (after_begin_share s tx top shares writes nodes)
  begins_share_kept s tx top shares writes nodes =
      kit.andthen s (with_share s tx (new_share top shares writes nodes)) (after_begin_share s tx top shares writes nodes)
      (with_share_kept Known R kit s tx (new_share top shares writes nodes))
      (kit.sent_all (with_share s tx (new_share top shares writes nodes)) (backup_prepare_outs s tx top shares writes nodes)
      (backup_prepare_tame s tx top shares writes nodes))

  pub draws_kept : (s : NodeState) (tx : TxId) (top : TopVer) (shares : List Share) (writes : List (Key × Option (List ℕ))) →
      R s (after_draw s tx top shares writes)
  draws_kept s tx top shares writes =
      kit.andthen s (record s { order = last_drawn s.order writes }) (after_draw s tx top shares writes)
      (kit.aside s (record s { order = last_drawn s.order writes }) refl)
      (begins_share_kept (record s { order = last_drawn s.order writes }) tx top shares
      (drawn_writes top s.me s.order writes) (backups_for s shares))

  pub checked_kept : (s : NodeState) (from : NodeId) (tx : TxId) (top : TopVer) (shares : List Share) (wanted : List Wanted)
      (writes : List (Key × Option (List ℕ))) (why : Option Fail) → R s (after_check s from tx top shares wanted writes why)
  checked_kept s from tx top shares wanted writes None =
      kit.andthen s (after_own_each s tx top wanted) (after_draw (after_own_each s tx top wanted) tx top shares writes)
      (owns_each_kept s tx top wanted)
      (draws_kept (after_own_each s tx top wanted) tx top shares writes)
  checked_kept s from tx top shares wanted writes (Some why) = sent_kept Known R kit s from (msg.PrepareFail tx why) refl

  pub prepare_in_kept : (s : NodeState) (from : NodeId) (tx : TxId) (top : TopVer) (how : Mode) (shares : List Share)
      (wanted : List Wanted) (writes : List (Key × Option (List ℕ))) →
      R s (after_prepare_in s from tx top how shares wanted writes)
  prepare_in_kept s from tx top mode.Pessimistic shares wanted writes = draws_kept s tx top shares writes
  prepare_in_kept s from tx top mode.Optimistic shares wanted writes = checked_kept s from tx top shares wanted writes
      (failed_check s tx wanted)

  pub prepare_row_kept : (s : NodeState) (from : NodeId) (tx : TxId) (top : TopVer) (how : Mode) (shares : List Share)
      (wanted : List Wanted) (writes : List (Key × Option (List ℕ))) →
      R s (after_prepare s from tx top how shares wanted writes)
  prepare_row_kept s from tx top how shares wanted writes =
      kit.andthen s (after_forget s tx) (after_prepare_in (after_forget s tx) from tx top how shares wanted writes)
      (forgetting_kept s tx)
      (prepare_in_kept (after_forget s tx) from tx top how shares wanted writes)

  pub backup_prepared_in_kept : (s : NodeState) (from : NodeId) (tx : TxId) (st : ShareState) →
      R s (after_backup_prepared_in s from tx st)
  backup_prepared_in_kept s from tx Preparing =
      on_share_kept Known R kit s tx (λ (h : OwnShare). record h { awaited = without_member node_cmp h.awaited from })
      (share_of s tx)
  backup_prepared_in_kept s from tx Prepared = kit.nothing s
  backup_prepared_in_kept s from tx Committed = kit.nothing s
  backup_prepared_in_kept s from tx Undoing = kit.nothing s

  pub backup_prepared_by_kept : (s : NodeState) (from : NodeId) (tx : TxId) (share : Option OwnShare) →
      R s (after_backup_prepared_of s from tx share)
  backup_prepared_by_kept s from tx None = kit.nothing s
  backup_prepared_by_kept s from tx (Some h) = backup_prepared_in_kept s from tx h.state

  pub backup_prepared_row_kept : (s : NodeState) (from : NodeId) (tx : TxId) → R s (after_backup_prepared s from tx)
  backup_prepared_row_kept s from tx = backup_prepared_by_kept s from tx (share_of s tx)

  pub begins_finish_kept : (s : NodeState) (tx : TxId) (st : ShareState) (from : NodeId) (nodes : List NodeId)
      (near : List NearWait) → R s (with_finish_begun s tx st from nodes near)
  begins_finish_kept s tx st from nodes near =
      on_share_kept Known R kit s tx (λ (h : OwnShare). record h {
        state = st;
        awaited = nodes;
        near = near;
        askers =
            from ∷ [];
      }) (share_of s tx)

  pub commits_share_kept : (s : NodeState) (from : NodeId) (tx : TxId) (h : OwnShare) (nodes : List NodeId) → Known tx →
      R s (after_commit_share s from tx h nodes)
  commits_share_kept s from tx h nodes known =
      let done = after_apply_each s tx h.top s.me h.writes in
      let begun = with_finish_begun done tx Committed from nodes (near_waits s h.writes) in
      let outs = backup_finish_outs tx s.me true nodes ++ near_outs s tx h.writes in
      kit.andthen s begun (with_outs begun outs)
      (kit.andthen s done begun
      (applied_all_kept s tx h.top s.me h.writes known)
      (begins_finish_kept done tx Committed from nodes (near_waits s h.writes)))
      (kit.finished begun tx outs known (both_end tx true (backup_finish_outs tx s.me true nodes) (near_outs s tx h.writes)
      (to_end tx true nodes (msg.BackupFinish tx s.me true) (ends_own tx true))
      (tame_end tx true (near_outs s tx h.writes) (near_tame s tx h.writes))))

  pub undoes_share_kept : (s : NodeState) (from : NodeId) (tx : TxId) (nodes : List NodeId) →
      R s (after_undo_share s from tx nodes)
  undoes_share_kept s from tx nodes =
      kit.andthen s (with_finish_begun s tx Undoing from nodes []) (after_undo_share s from tx nodes)
      (begins_finish_kept s tx Undoing from nodes [])
      (kit.sent_all (with_finish_begun s tx Undoing from nodes []) (backup_finish_outs tx s.me false nodes)
      (to_tame nodes (msg.BackupFinish tx s.me false) refl))

  pub finishing_kept : (s : NodeState) (from : NodeId) (tx : TxId) (commit : Bool) (h : OwnShare) (st : ShareState) →
      (commit ≡ true → Known tx) → R s (after_finish_in s from tx commit h st)
  finishing_kept s from tx true h Prepared known = commits_share_kept s from tx h (backups_for s h.shares) (known refl)
  finishing_kept s from tx true h Preparing known = sent_kept Known R kit s from (msg.Finished tx) refl
  finishing_kept s from tx true h Committed known = sent_kept Known R kit s from (msg.Finished tx) refl
  finishing_kept s from tx true h Undoing known = sent_kept Known R kit s from (msg.Finished tx) refl
  finishing_kept s from tx false h Prepared known = undoes_share_kept s from tx (backups_for s h.shares)
  finishing_kept s from tx false h Preparing known = undoes_share_kept s from tx (backups_for s h.shares)
  finishing_kept s from tx false h Committed known = sent_kept Known R kit s from (msg.Finished tx) refl
  finishing_kept s from tx false h Undoing known = sent_kept Known R kit s from (msg.Finished tx) refl

  pub adds_asker_kept : (s : NodeState) (tx : TxId) (from : NodeId) → R s (with_asker s tx from)
  adds_asker_kept s tx from =
      on_share_kept Known R kit s tx (λ (h : OwnShare). record h { askers = with_member node_cmp h.askers from })
      (share_of s tx)

  pub finish_at_kept : (s : NodeState) (from : NodeId) (tx : TxId) (commit : Bool) (h : OwnShare) (askers : List NodeId) →
      (commit ≡ true → Known tx) → R s (after_finish_at s from tx commit h askers)
  finish_at_kept s from tx commit h [] known = finishing_kept s from tx commit h h.state known
  finish_at_kept s from tx commit h (asker ∷ more) known = adds_asker_kept s tx from

  pub finish_of_kept : (s : NodeState) (from : NodeId) (tx : TxId) (commit : Bool) (share : Option OwnShare) →
      (commit ≡ true → Known tx) → R s (after_finish_of s from tx commit share)
  finish_of_kept s from tx commit None known =
      kit.andthen s (after_release_all s tx) (with_out (after_release_all s tx) from (msg.Finished tx))
      (releases_kept s tx)
      (sent_kept Known R kit (after_release_all s tx) from (msg.Finished tx) refl)
  finish_of_kept s from tx commit (Some h) known = finish_at_kept s from tx commit h h.askers known

  pub finish_row_kept : (s : NodeState) (from : NodeId) (tx : TxId) (commit : Bool) → (commit ≡ true → Known tx) →
      R s (after_finish s from tx commit)
  finish_row_kept s from tx commit known = finish_of_kept s from tx commit (share_of s tx) known

  pub backup_finished_at_kept : (s : NodeState) (from : NodeId) (tx : TxId) (askers : List NodeId) →
      R s (after_backup_finished_in s from tx askers)
  backup_finished_at_kept s from tx [] = kit.nothing s
  backup_finished_at_kept s from tx (asker ∷ more) =
      on_share_kept Known R kit s tx (λ (h : OwnShare). record h { awaited = without_member node_cmp h.awaited from })
      (share_of s tx)

  pub backup_finished_by_kept : (s : NodeState) (from : NodeId) (tx : TxId) (share : Option OwnShare) →
      R s (after_backup_finished_of s from tx share)
  backup_finished_by_kept s from tx None = kit.nothing s
  backup_finished_by_kept s from tx (Some h) = backup_finished_at_kept s from tx h.askers

  pub own_backup_finished_kept : (s : NodeState) (from : NodeId) (tx : TxId) (primary : NodeId) →
      R s (after_backup_finished_at_primary s from tx primary)
  own_backup_finished_kept s from tx primary =
      either_kept Known R kit s (after_backup_finished_of s from tx (share_of s tx)) s (same_node primary s.me)
      (backup_finished_by_kept s from tx (share_of s tx))
      (kit.nothing s)

  pub near_done_row_kept : (s : NodeState) (from : NodeId) (tx : TxId) (key : Key) → R s (after_near_done s from tx key)
  near_done_row_kept s from tx key = on_share_kept Known R kit s tx (λ (h : OwnShare). record h {
    near = without_member near_wait_cmp h.near (record { key = key; node = from });
  }) (share_of s tx)

  pub ends_finish_kept : (s : NodeState) (tx : TxId) → R s (with_finish_ended s tx)
  ends_finish_kept s tx = on_share_kept Known R kit s tx (λ (h : OwnShare). record h { askers = [] }) (share_of s tx)

  pub share_after_kept : (s : NodeState) (tx : TxId) (st : ShareState) → R s (after_finished_share s tx st)
  share_after_kept s tx Undoing = kit.aside s (record s { shares = without tx_cmp s.shares tx }) refl
  share_after_kept s tx Preparing = ends_finish_kept s tx
  share_after_kept s tx Prepared = ends_finish_kept s tx
  share_after_kept s tx Committed = ends_finish_kept s tx

  pub finish_over_kept : (s : NodeState) (tx : TxId) (h : OwnShare) → R s (after_end_finish s tx h)
  finish_over_kept s tx h =
      let left = after_release_all s tx in
      let after = after_finished_share left tx h.state in
      kit.andthen s after (with_outs after (outs_to h.askers (msg.Finished tx)))
      (kit.andthen s left after (releases_kept s tx) (share_after_kept left tx h.state))
      (kit.sent_all after (outs_to h.askers (msg.Finished tx)) (to_tame h.askers (msg.Finished tx) refl))

  pub is_prepared_kept : (s : NodeState) (tx : TxId) → R s (after_share_prepared s tx)
  is_prepared_kept s tx =
      let after = on_share s tx (λ (h : OwnShare). record h { state = Prepared }) (share_of s tx) in
      kit.andthen s after (with_out after tx.node (msg.Prepared tx))
      (on_share_kept Known R kit s tx (λ (h : OwnShare). record h { state = Prepared }) (share_of s tx))
      (sent_kept Known R kit after tx.node (msg.Prepared tx) refl)

  pub goes_on_kept : (s : NodeState) (tx : TxId) (h : OwnShare) (awaited : List NodeId) (near : List NearWait)
      (askers : List NodeId) (st : ShareState) → R s (after_advance_share_in s tx h awaited near askers st)
  goes_on_kept s tx h [] [] (asker ∷ more) st = finish_over_kept s tx h
  goes_on_kept s tx h [] [] [] Preparing = is_prepared_kept s tx
  goes_on_kept s tx h [] [] [] Prepared = kit.nothing s
  goes_on_kept s tx h [] [] [] Committed = kit.nothing s
  goes_on_kept s tx h [] [] [] Undoing = kit.nothing s
  goes_on_kept s tx h [] (wait ∷ waits) [] Preparing = is_prepared_kept s tx
  goes_on_kept s tx h [] (wait ∷ waits) [] Prepared = kit.nothing s
  goes_on_kept s tx h [] (wait ∷ waits) [] Committed = kit.nothing s
  goes_on_kept s tx h [] (wait ∷ waits) [] Undoing = kit.nothing s
  goes_on_kept s tx h [] (wait ∷ waits) (asker ∷ more) st = kit.nothing s
  goes_on_kept s tx h (first ∷ rest) near askers st = kit.nothing s

  pub share_on_kept : (s : NodeState) (tx : TxId) (share : Option OwnShare) → R s (after_advance_share s tx share)
  share_on_kept s tx None = kit.nothing s
  share_on_kept s tx (Some h) = goes_on_kept s tx h h.awaited h.near h.askers h.state

  pub shares_on_kept : (s : NodeState) (txs : List TxId) → R s (after_advance_shares s txs)
  shares_on_kept s [] = kit.nothing s
  shares_on_kept s (tx ∷ txs) = let next = after_advance_share s tx (share_of s tx) in
      kit.andthen s next (after_advance_shares next txs) (share_on_kept s tx (share_of s tx)) (shares_on_kept next txs)

  pub shares_left_kept : (s : NodeState) (id : NodeId) (txs : List TxId) → R s (after_left_at_shares s id txs)
  shares_left_kept s id [] = kit.nothing s
  shares_left_kept s id (tx ∷ txs) = let next = on_share s tx (share_without_node id) (share_of s tx) in
      kit.andthen s next (after_left_at_shares next id txs) (on_share_kept Known R kit s tx (share_without_node id)
      (share_of s tx)) (shares_left_kept next id txs)

  pub primary_left_kept : (s : NodeState) (id : NodeId) → R s (after_left_at_primary s id)
  primary_left_kept s id = let here = after_left_at_shares s id (own_txs s) in
      kit.andthen s here (record here { readers = without_reader here.readers id })
      (shares_left_kept s id (own_txs s))
      (kit.aside here (record here { readers = without_reader here.readers id }) refl)

  pub backup_prepare_row_kept : (s : NodeState) (from : NodeId) (tx : TxId) (top : TopVer) (shares : List Share)
      (primary : NodeId) (writes : List Stored) → R s (after_backup_prepare s from tx top shares primary writes)
  backup_prepare_row_kept s from tx top shares primary writes =
      let old = after_forget s tx in
      let share : BackupShare = record { top = top; shares = shares; writes = writes; state = Prepared } in
      let kept = with_backup old tx primary share in
      kit.andthen s kept (with_out kept from (msg.BackupPrepared tx))
      (kit.andthen s old kept (forgetting_kept s tx) (with_backup_kept Known R kit old tx primary share))
      (sent_kept Known R kit kept from (msg.BackupPrepared tx) refl)

  pub commits_backup_kept : (s : NodeState) (tx : TxId) (primary : NodeId) (h : BackupShare) → Known tx →
      R s (after_commit_backup s tx primary h)
  commits_backup_kept s tx primary h known = let done = after_apply_each s tx h.top primary h.writes in
      kit.andthen s done (with_backup done tx primary (record h { state = Committed }))
      (applied_all_kept s tx h.top primary h.writes known)
      (with_backup_kept Known R kit done tx primary (record h { state = Committed }))

  pub drops_backup_kept : (s : NodeState) (tx : TxId) (primary : NodeId) → R s (without_backup s tx primary)
  drops_backup_kept s tx primary = kit.aside s (without_backup s tx primary) refl

  pub finishes_backup_kept : (s : NodeState) (tx : TxId) (primary : NodeId) (commit : Bool) (h : BackupShare)
      (st : ShareState) → (commit ≡ true → Known tx) → R s (after_backup_finish_in s tx primary commit h st)
  finishes_backup_kept s tx primary true h Prepared known = commits_backup_kept s tx primary h (known refl)
  finishes_backup_kept s tx primary true h Preparing known = kit.nothing s
  finishes_backup_kept s tx primary true h Committed known = kit.nothing s
  finishes_backup_kept s tx primary true h Undoing known = kit.nothing s
  finishes_backup_kept s tx primary false h st known = drops_backup_kept s tx primary

  pub backup_finish_by_kept : (s : NodeState) (tx : TxId) (primary : NodeId) (commit : Bool) (share : Option BackupShare) →
      (commit ≡ true → Known tx) → R s (after_backup_finish_of s tx primary commit share)
  backup_finish_by_kept s tx primary commit None known = kit.nothing s
  backup_finish_by_kept s tx primary commit (Some h) known = finishes_backup_kept s tx primary commit h h.state known

  pub backup_finish_row_kept : (s : NodeState) (from : NodeId) (tx : TxId) (primary : NodeId) (commit : Bool) →
      (commit ≡ true → Known tx) → R s (after_backup_finish s from tx primary commit)
  backup_finish_row_kept s from tx primary commit known =
      let after = after_backup_finish_of s tx primary commit (backup_of s tx primary) in
      kit.andthen s after (with_out after from (msg.BackupFinished tx primary))
      (backup_finish_by_kept s tx primary commit (backup_of s tx primary) known)
      (sent_kept Known R kit after from (msg.BackupFinished tx primary) refl)

  pub demand_row_kept : (s : NodeState) (from : NodeId) (top : TopVer) (part : ℕ) (after : Option Key) →
      R s (after_demand s from top part after)
  demand_row_kept s from top part after =
      let copy : Copy = copy_at s.stores part in
      let m : Message = msg.Supply top part (batch_of copy after batch_size) (is_last_batch copy after batch_size) in
      either_kept Known R kit s (with_out s from m) s (is_installed s top) (sent_kept Known R kit s from m refl) (kit.nothing s)

  pub with_copy_kept : (s : NodeState) (part : ℕ) (copy : Copy) → R s (with_copy s part copy)
  with_copy_kept s part copy = kit.aside s (with_copy s part copy) refl

  pub claims_if_all_kept : (s : NodeState) (top : TopVer) → R s (after_claim_if_all s top)
  claims_if_all_kept s top = either_kept Known R kit s (with_out_to_oldest s (msg.Complete top) (oldest_seen s)) s
      (all_filled s)
      (sent_to_oldest_kept Known R kit s (msg.Complete top) (oldest_seen s) refl) (kit.nothing s)

  pub completes_kept : (s : NodeState) (top : TopVer) (part : ℕ) → R s (after_complete_part s top part)
  completes_kept s top part =
      let here : NodeState = record (with_copy s part (without_tombstones (copy_at s.stores part))) {
        complete = with_member nat_cmp s.complete part;
      } in
      kit.andthen s here (after_claim_if_all here top) (kit.aside s here refl) (claims_if_all_kept here top)

  pub supplied_to_kept : (s : NodeState) (from : NodeId) (top : TopVer) (part : ℕ) (entries : List Stored) (last : Bool) →
      R s (after_supplied s from top part entries last)
  supplied_to_kept s from top part entries true = completes_kept s top part
  supplied_to_kept s from top part entries false = sent_kept Known R kit s from (msg.Demand top part (last_key entries)) refl

  pub supply_row_kept : (s : NodeState) (from : NodeId) (top : TopVer) (part : ℕ) (entries : List Stored) (last : Bool) →
      R s (after_supply s from top part entries last)
  supply_row_kept s from top part entries last =
      let here : NodeState = with_copy s part (copy_after_supply (copy_at s.stores part) entries) in
      either_kept Known R kit s (after_supplied here from top part entries last) s (is_installed s top)
      (kit.andthen s here (after_supplied here from top part entries last)
      (with_copy_kept s part (copy_after_supply (copy_at s.stores part) entries))
      (supplied_to_kept here from top part entries last))
      (kit.nothing s)

  pub complete_row_kept : (s : NodeState) (from : NodeId) (top : TopVer) → R s (after_complete s from top)
  complete_row_kept s from top = kit.aside s (after_complete s from top) refl

  -- A loss begins a new round.

  pub sends_orphans_kept : (s : NodeState) (round : ℕ) → R s (after_send_orphans s round)
  sends_orphans_kept s round = sent_to_oldest_kept Known R kit s (orphans_message s round) (oldest_seen s) refl

  pub starts_round_kept : (s : NodeState) (place : ℕ) → R s (with_new_round s place)
  starts_round_kept s place = kit.aside s (with_new_round s place) refl

  pub begins_round_kept : (s : NodeState) (place : ℕ) → R s (after_begin_round s place)
  begins_round_kept s place = kit.andthen s (with_new_round s place) (after_send_orphans (with_new_round s place) place)
      (starts_round_kept s place) (sends_orphans_kept (with_new_round s place) place)

  -- The verdicts.

  pub on_round_kept : (s : NodeState) (f : Round → Round) (found : Option Round) → R s (on_round s f found)
  on_round_kept s f None = kit.nothing s
  on_round_kept s f (Some r) = kit.aside s (record s { round = Some (f r) }) refl

  pub awaits_verdict_kept : (s : NodeState) (tx : TxId) (nodes : List NodeId) (backups : List Share) →
      R s (with_verdict_awaited s tx nodes backups)
  awaits_verdict_kept s tx nodes backups = on_round_kept s (λ (r : Round). record r {
    finishes = with_finish_waits r.finishes tx nodes;
    backups = with_backup_waits r.backups tx backups;
  }) s.round

  pub gives_verdict_kept : (s : NodeState) (tx : TxId) (commit : Bool) (shares : List Share) (nodes : List NodeId) →
      R s (after_give_verdict s tx commit shares nodes)
  gives_verdict_kept s tx commit shares nodes = by s.round
    where
      noted : NodeState
      noted = with_note (record s { verdicts = put tx_cmp s.verdicts tx commit }) (note.Decide tx commit)

      outs : List Out
      outs = outs_to (finish_nodes s shares nodes) (msg.Finish tx commit) ++ finishes_for_lost s tx commit shares
          (lost_among s (primaries_of shares))

      ends : list_all (is_end_of tx commit) outs ≡ true
      ends = both_end tx commit (outs_to (finish_nodes s shares nodes) (msg.Finish tx commit))
          (finishes_for_lost s tx commit shares (lost_among s (primaries_of shares)))
          (to_end tx commit (finish_nodes s shares nodes) (msg.Finish tx commit) (ends_own tx commit))
          (lost_end s tx commit shares (lost_among s (primaries_of shares)))

      awaits : Round → Round
      awaits = λ (r : Round). record r {
        finishes = with_finish_waits r.finishes tx (finish_nodes s shares nodes);
        backups = with_backup_waits r.backups tx (orphaned_shares s shares);
      }

      by : (o : Option Round) → R s (with_outs (on_round noted awaits o) outs)
      by None = kit.decided s (with_outs noted outs) tx commit outs refl refl ends
      by (Some r) = kit.decided s (with_outs (record noted { round = Some (awaits r) }) outs) tx commit outs refl refl ends

  pub judges_kept : (s : NodeState) (tx : TxId) (members : List Member) (orphans : List Orphan) (nodes : List NodeId) →
      R s (after_judge s tx members orphans nodes)
  judges_kept s tx members orphans nodes =
      either_kept Known R kit s s (after_give_verdict s tx (verdict (at tx_cmp s.verdicts tx) orphans members)
      (shares_named orphans) nodes) (is_settled orphans)
      (kit.nothing s)
      (gives_verdict_kept s tx (verdict (at tx_cmp s.verdicts tx) orphans members) (shares_named orphans) nodes)

  pub judges_each_kept : (s : NodeState) (members : List Member) (reports : List Report) (txs : List TxId) →
      R s (after_judge_each s members reports txs)
  judges_each_kept s members reports [] = kit.nothing s
  judges_each_kept s members reports (tx ∷ txs) =
      let judged : NodeState = after_judge s tx members (orphans_for tx reports) (lockers tx reports) in
      kit.andthen s judged (after_judge_each judged members reports txs)
      (judges_kept s tx members (orphans_for tx reports) (lockers tx reports)) (judges_each_kept judged members reports txs)

  pub has_acted_kept : (s : NodeState) → R s (with_round_acted s)
  has_acted_kept s = on_round_kept s (λ (r : Round). record r { acted = true }) s.round

  pub acts_on_round_kept : (s : NodeState) (members : List Member) (reports : List Report) →
      R s (after_act_on_round s members reports)
  acts_on_round_kept s members reports =
      kit.andthen s (with_round_acted s) (after_judge_each (with_round_acted s) members reports (names_of reports))
      (has_acted_kept s) (judges_each_kept (with_round_acted s) members reports (names_of reports))

  pub recovers_with_kept : (s : NodeState) (r : Round) (reports : List Report) → R s (after_recover_with s r reports)
  recovers_with_kept s r reports = either_kept Known R kit s (after_act_on_round s r.members reports) s
      (all_reported r.members reports)
      (acts_on_round_kept s r.members reports) (kit.nothing s)

  pub recovers_if_all_kept : (s : NodeState) (found : Option Round) → R s (after_recover_if_all s found)
  recovers_if_all_kept s None = kit.nothing s
  recovers_if_all_kept s (Some r) = either_kept Known R kit s (after_recover_with s r (reports_for s.reports r.place)) s
      (is_recoverer s r && not r.acted)
      (recovers_with_kept s r (reports_for s.reports r.place)) (kit.nothing s)

  pub reports_more_kept : (s : NodeState) (r : Report) → R s (with_report s r)
  reports_more_kept s r = kit.aside s (with_report s r) refl

  pub orphans_row_kept : (s : NodeState) (from : NodeId) (round : ℕ) (list : List Orphan) →
      R s (after_orphans s from round list)
  orphans_row_kept s from round list = let here : NodeState = record s {
    reports = s.reports ++ record { round = round; from = from; list = list } ∷ [];
  } in kit.andthen s here (after_recover_if_all here here.round) (kit.aside s here refl) (recovers_if_all_kept here here.round)

  -- answers to the recoverer

  pub recovery_finished_kept : (s : NodeState) (from : NodeId) (tx : TxId) → R s (after_finished_at_recoverer s from tx)
  recovery_finished_kept s from tx = on_round_kept s (λ (r : Round). record r {
    finishes = without_member finish_wait_cmp r.finishes (record { tx = tx; node = from });
  }) s.round

  pub recovery_backup_finished_kept : (s : NodeState) (from : NodeId) (tx : TxId) (primary : NodeId) →
      R s (after_backup_finished_at_recoverer s from tx primary)
  recovery_backup_finished_kept s from tx primary = on_round_kept s (λ (r : Round). record r {
    backups = without_member backup_wait_cmp r.backups (record { tx = tx; primary = primary; holder = from });
  }) s.round

  -- Seeing.

  pub learns_kept : (s : NodeState) (event : TopoEvent) → R s (after_learn s event)
  learns_kept s event = kit.aside s (after_learn s event) refl

  -- Installing.

  -- what a new map leaves, before it is noted
  abbrev cleared : NodeState → PartMap → NodeState
  cleared s m = record s {
    installed = Some m;
    stores = kept_copies s.me s.stores m.rows;
    near = [];
    readers = [];
    shares = without_each tx_cmp s.shares (keys_where (λ (e : TxId × OwnShare). is_kept_commit e.1.state) s.shares);
    backups = without_each backup_cmp s.backups (keys_where (λ (e : BackupName × BackupShare). is_kept_commit e.1.state)
        s.backups);
    complete = [];
    claims = [];
  }

  pub installs_kept : (s : NodeState) (m : PartMap) → R s (after_install s m)
  installs_kept s m = kit.andthen s (cleared s m) (with_note (cleared s m) (note.Install m)) (kit.aside s (cleared s m) refl)
      (kit.noting (cleared s m) (note.Install m) refl)

  -- Opening.

  pub demands_kept : (s : NodeState) → R s (after_send_demands s)
  demands_kept s = kit.sent_all s (demand_outs s.me (installed_top s) 0 (rows_of s))
      (demands_tame s.me (installed_top s) 0 (rows_of s))

  pub opens_row_kept : (s : NodeState) (top : TopVer) → R s (after_opens s top)
  opens_row_kept s top =
      let opening : NodeState = record s { opened = Some top } in
      let noted : NodeState = with_note opening (note.Opened top) in
      kit.andthen s noted (after_send_demands (after_start_all noted))
      (kit.andthen s opening noted (kit.aside s opening refl) (kit.noting opening (note.Opened top) refl))
      (kit.andthen noted (after_start_all noted) (after_send_demands (after_start_all noted))
      (starts_all_kept Known R kit noted) (demands_kept (after_start_all noted)))

  -- The coordinator.

  pub opens_for_all_kept : (s : NodeState) (top : TopVer) → R s (after_open_for_all s top)
  opens_for_all_kept s top =
      let over : NodeState = record s { exchange = None } in
      let told : NodeState = with_outs over (outs_to (others_seen s) (msg.Opens top)) in
      kit.andthen s told (after_opens told top)
      (kit.andthen s over told (kit.aside s over refl) (kit.sent_all over (outs_to (others_seen s) (msg.Opens top))
      (to_tame (others_seen s) (msg.Opens top) refl)))
      (opens_row_kept told top)

  pub opens_if_all_kept : (s : NodeState) (found : Option Exchange) → R s (after_open_if_all s found)
  opens_if_all_kept s None = kit.nothing s
  opens_if_all_kept s (Some x) = either_kept Known R kit s (after_open_for_all s x.top) s
      (all_installed s.members x.installed) (opens_for_all_kept s x.top) (kit.nothing s)

  pub counts_kept : (s : NodeState) (x : Exchange) → R s (after_count s x)
  counts_kept s x =
      let here : NodeState = record s { exchange = Some x } in
      kit.andthen s here (after_open_if_all here (Some x)) (kit.aside s here refl) (opens_if_all_kept here (Some x))

  pub without_singles_kept : (s : NodeState) (top : TopVer) → R s (without_singles s top)
  without_singles_kept s top = kit.aside s (without_singles s top) refl

  pub computes_kept : (s : NodeState) (m : PartMap) → R s (after_compute s m)
  computes_kept s m =
      let fewer : NodeState = without_singles s m.top in
      let there : NodeState = after_install fewer m in
      let told : NodeState = with_outs there (outs_to (others_seen s) (msg.Full m)) in
      let own : Exchange = record { top = m.top; installed = s.me ∷ [] } in
      kit.andthen s there (after_count told own)
      (kit.andthen s fewer there (without_singles_kept s m.top) (installs_kept fewer m))
      (kit.andthen there told (after_count told own) (kit.sent_all there (outs_to (others_seen s) (msg.Full m))
      (to_tame (others_seen s) (msg.Full m) refl)) (counts_kept told own))

  pub computes_if_all_kept : (s : NodeState) → R s (after_compute_if_all s)
  computes_if_all_kept s = either_kept Known R kit s (after_compute s (next_map_seen s)) s (may_compute s)
      (computes_kept s (next_map_seen s)) (kit.nothing s)

  pub single_row_kept : (s : NodeState) (from : NodeId) (top : TopVer) (m : Option PartMap) (complete : List ℕ) →
      R s (after_single s from top m complete)
  single_row_kept s from top m complete =
      let here : NodeState = record s {
        singles = s.singles ++ record { from = from; top = top; map = m; complete = complete } ∷ [];
      } in
      kit.andthen s here (after_compute_if_all here) (kit.aside s here refl) (computes_if_all_kept here)

  pub full_row_kept : (s : NodeState) (from : NodeId) (m : PartMap) → R s (after_full s from m)
  full_row_kept s from m = either_kept Known R kit s (with_out (after_install s m) from (msg.Installed m.top)) s
      (is_newer_map m s.installed)
      (kit.andthen s (after_install s m) (with_out (after_install s m) from (msg.Installed m.top)) (installs_kept s m)
      (kit.sent_all (after_install s m) (record { to = from; msg = msg.Installed m.top } ∷ []) refl))
      (kit.nothing s)

  pub counts_installed_kept : (s : NodeState) (from : NodeId) (top : TopVer) (found : Option Exchange) →
      R s (after_count_installed s from top found)
  counts_installed_kept s from top None = kit.nothing s
  counts_installed_kept s from top (Some x) = let more : Exchange =
      record x { installed = with_member node_cmp x.installed from } in
      either_kept Known R kit s (after_count s more) s (same_top x.top top) (counts_kept s more) (kit.nothing s)

  pub installed_row_kept : (s : NodeState) (from : NodeId) (top : TopVer) → R s (after_installed s from top)
  installed_row_kept s from top = counts_installed_kept s from top s.exchange

  pub without_single_kept : (s : NodeState) (who : NodeId) → R s (without_single s who)
  without_single_kept s who = kit.aside s (without_single s who) refl

  pub sends_single_kept : (s : NodeState) → R s (after_send_single s)
  sends_single_kept s =
      let marked = record s { single_sent = Some s.seen } in
      kit.andthen s marked (after_send_single s)
      (kit.aside s marked refl)
      (sent_to_oldest_kept Known R kit marked (msg.Single s.seen s.installed s.complete) (oldest_seen s) refl)

  pub single_if_drained_kept : (s : NodeState) → R s (after_single_if_drained s)
  single_if_drained_kept s = either_kept Known R kit s (after_send_single s) s (owes_single s) (sends_single_kept s)
      (kit.nothing s)

  pub closed_kept : (s : NodeState) → R s (after_closing_rules s)
  closed_kept s =
      let shared = after_advance_shares s (own_txs s) in
      let first = after_advance_starter shared in
      let started = after_start_all first in
      let second = after_advance_starter started in
      kit.andthen s shared (after_single_if_drained second) (shares_on_kept s (own_txs s))
      (kit.andthen shared first (after_single_if_drained second) (near_on_kept Known R kit shared)
      (kit.andthen first started (after_single_if_drained second) (starts_all_kept Known R kit first)
      (kit.andthen started second (after_single_if_drained second) (near_on_kept Known R kit started)
      (single_if_drained_kept second))))
