-- The rows of a primary, of holders, of filling, of the exchange up to an opening, and of rounds leave sessions and accesses
-- alone.
use Rattle.std.proofs.Common.{◌≡◌, ◌++◌, ℕ, List, [], ◌∷◌, Bool, true, false, Option, Some, None, refl}
use Rattle.std.specs.Ordering.{nat_cmp}
use Rattle.act_rows.specs.Backups.{after_backup_finish, after_backup_finish_in, after_backup_finish_of, after_backup_prepare, after_commit_backup, without_backup}
use Rattle.act_rows.specs.Closing.{after_send_single, after_single_if_drained, owes_single}
use Rattle.act_rows.specs.Decisions.{backup_finish_outs}
use Rattle.act_rows.specs.Exchange.{after_full, after_install, is_newer_map}
use Rattle.act_rows.specs.Filling.{after_claim_if_all, after_complete, after_complete_part, after_demand, after_supplied, after_supply, all_filled, last_key, with_copy}
use Rattle.act_rows.specs.Locks.{after_edges, after_get, after_grant, after_leave, after_lock, after_lock_behind, after_own_each, after_pass_on, after_release, after_release_all, after_release_each, is_owner, owner_at, with_queued, with_reader_if}
use Rattle.act_rows.specs.Primary.{after_advance_share, after_advance_share_in, after_advance_shares, after_backup_finished_at_primary, after_backup_finished_in, after_backup_finished_of, after_backup_prepared, after_backup_prepared_in, after_backup_prepared_of, after_check, after_commit_share, after_draw, after_end_finish, after_finish, after_finish_at, after_finish_in, after_finish_of, after_finished_share, after_forget, after_left_at_primary, after_left_at_shares, after_near_done, after_prepare, after_prepare_in, after_share_prepared, after_undo_share, backup_prepare_outs, backups_for, drawn_writes, failed_check, last_drawn, near_outs, near_waits, new_share, own_txs, share_without_node, with_finish_begun}
use Rattle.act_rows.specs.Recovery.{after_backup_finished_at_recoverer, after_finished_at_recoverer, on_round}
use Rattle.act_rows.specs.Steps.{backup_of, installed_top, is_installed, oldest_seen, on_share, outs_to, share_of, with_note, with_out, with_out_to_oldest, with_outs, with_share}
use Rattle.act_rows.specs.Stores.{after_apply_each, found_at, with_stored}
use Rattle.ignite_types.specs.Names.{same_node}
use Rattle.ignite_types.specs.declared.answer.Fail.{Fail}
use Rattle.ignite_types.specs.declared.message.Message.{Message}
use Rattle.ignite_types.specs.declared.message.Stored.{Stored}
use Rattle.ignite_types.specs.declared.message.Wanted.{Wanted}
use Rattle.ignite_types.specs.declared.names.NodeId.{NodeId}
use Rattle.ignite_types.specs.declared.names.TopVer.{TopVer}
use Rattle.ignite_types.specs.declared.names.TxId.{TxId}
use Rattle.ignite_types.specs.declared.placement.PartMap.{PartMap}
use Rattle.ignite_types.specs.declared.placement.Share.{Share}
use Rattle.ignite_types.specs.declared.placement.ShareState.{ShareState}
use Rattle.ignite_types.specs.declared.placement.ShareState.TheVariants.{Committed, Prepared, Preparing, Undoing}
use Rattle.ignite_types.specs.declared.scenario.Mode.{Mode}
use Rattle.ignite_types.specs.declared.text.Key.{Key}
use Rattle.node_state.specs.Node.{NodeState}
use Rattle.node_state.specs.declared.primary.BackupShare.{BackupShare}
use Rattle.node_state.specs.declared.primary.NearWait.{NearWait}
use Rattle.node_state.specs.declared.primary.OwnShare.{OwnShare}
use Rattle.node_state.specs.declared.topology.Round.{Round}
use Rattle.ordered_set.specs.Members.{with_member}
use Rattle.part_model.specs.Copies.{batch_of, batch_size, copy_after_supply, copy_at, is_last_batch, without_tombstones}
use Rattle.part_model.specs.NearEntries.{without_reader}
use Rattle.part_model.specs.Queues.{keys_queued_for}
use Rattle.ignite_types.specs.declared.journal.Rec.TheVariants as note
use Rattle.ignite_types.specs.declared.message.Message.TheVariants as msg
use Rattle.ignite_types.specs.declared.scenario.Mode.TheVariants as mode
use Rattle.transaction_laws.proofs.LeavesStarters.{all_of_both}
use Rattle.ignite_types.proofs.NameLaws.{same_node_itself}
use Rattle.told_laws.proofs.LeavesAccesses.{andthen, aside, either, right_backup_prepares, right_near, right_to, notes, notes_sends, nothing, on_share_leaves, sends, sends_all, sends_to_oldest}
use Rattle.told_laws.specs.LeavesAccesses.{LeavesAccesses, is_sent_right}

-- Locks.

-- the starter is told that its transaction owns the key
grant_leaves : (s : NodeState) (to : NodeId) (tx : TxId) (top : TopVer) (key : Key) → same_node tx.node to ≡ true →
    LeavesAccesses s (after_grant s to tx top key)
grant_leaves s to tx top key mine = notes_sends s (after_grant s to tx top key) (note.Grant tx top key)
    (record { to = to; msg = msg.LockOk tx key (found_at (with_note s (note.Grant tx top key)) key) } ∷ []) refl
    (rw mine refl) refl

lock_behind_leaves : (s : NodeState) (from : NodeId) (tx : TxId) (top : TopVer) (key : Key) (owner : Option TxId) →
    same_node tx.node from ≡ true → LeavesAccesses s (after_lock_behind s from tx top key owner)
lock_behind_leaves s from tx top key None mine =
    andthen s (with_queued s tx key) (after_grant (with_queued s tx key) from tx top key)
    (aside s (with_queued s tx key) refl) (grant_leaves (with_queued s tx key) from tx top key mine)
lock_behind_leaves s from tx top key (Some owner) mine = notes s (with_note (with_queued s tx key) (note.Queue tx key owner))
    (note.Queue tx key owner) refl refl

pub lock_leaves : (s : NodeState) (from : NodeId) (tx : TxId) (top : TopVer) (key : Key) → same_node tx.node from ≡ true →
    LeavesAccesses s (after_lock s from tx top key)
lock_leaves s from tx top key mine = lock_behind_leaves s from tx top key (owner_at s key) mine

pass_on_leaves : (s : NodeState) (key : Key) (was_owner : Bool) (owner : Option TxId) →
    LeavesAccesses s (after_pass_on s key was_owner owner)
pass_on_leaves s key true (Some next) = grant_leaves s next.node next (installed_top s) key (same_node_itself next.node)
pass_on_leaves s key true None = nothing s
pass_on_leaves s key false owner = nothing s

release_leaves : (s : NodeState) (tx : TxId) (key : Key) → LeavesAccesses s (after_release s tx key)
release_leaves s tx key =
    let after = with_note (after_leave s tx key) (note.Drop tx key) in
    andthen s after (after_release s tx key) (notes s after (note.Drop tx key) refl refl)
    (pass_on_leaves after key (is_owner tx (owner_at s key)) (owner_at after key))

release_each_leaves : (s : NodeState) (tx : TxId) (keys : List Key) → LeavesAccesses s (after_release_each s tx keys)
release_each_leaves s tx [] = nothing s
release_each_leaves s tx (key ∷ keys) =
    andthen s (after_release s tx key) (after_release_each (after_release s tx key) tx keys) (release_leaves s tx key)
    (release_each_leaves (after_release s tx key) tx keys)

release_all_leaves : (s : NodeState) (tx : TxId) → LeavesAccesses s (after_release_all s tx)
release_all_leaves s tx = release_each_leaves s tx (keys_queued_for s.queues tx)

own_each_leaves : (s : NodeState) (tx : TxId) (top : TopVer) (ws : List Wanted) → LeavesAccesses s (after_own_each s tx top ws)
own_each_leaves s tx top [] = nothing s
own_each_leaves s tx top (w ∷ ws) =
    let next = with_note (with_queued s tx w.key) (note.Grant tx top w.key) in
    andthen s next (after_own_each next tx top ws) (notes s next (note.Grant tx top w.key) refl refl)
    (own_each_leaves next tx top ws)

reader_leaves : (s : NodeState) (from : NodeId) (near : Bool) (key : Key) → LeavesAccesses s (with_reader_if s from near key)
reader_leaves s from true key = aside s (with_reader_if s from true key) refl
reader_leaves s from false key = nothing s

pub get_leaves : (s : NodeState) (from : NodeId) (tx : TxId) (key : Key) (near : Bool) → same_node tx.node from ≡ true →
    LeavesAccesses s (after_get s from tx key near)
get_leaves s from tx key near mine =
    andthen s (with_reader_if s from near key) (after_get s from tx key near) (reader_leaves s from near key)
    (sends (with_reader_if s from near key) from (msg.GetOk tx key (found_at s key)) mine)

pub edges_leaves : (s : NodeState) (from : NodeId) (tx : TxId) (round : ℕ) (txs : List TxId) →
    LeavesAccesses s (after_edges s from tx round txs)
edges_leaves s from tx round txs = notes_sends s (after_edges s from tx round txs) _ _ refl refl refl

-- Both phases at a primary.

apply_each_leaves : (s : NodeState) (tx : TxId) (top : TopVer) (primary : NodeId) (ws : List Stored) →
    LeavesAccesses s (after_apply_each s tx top primary ws)
apply_each_leaves s tx top primary [] = nothing s
apply_each_leaves s tx top primary (w ∷ ws) =
    let next = with_note (with_stored s w) (note.Apply tx top primary w.key w.value w.ver) in
    andthen s next (after_apply_each next tx top primary ws)
    (notes s next (note.Apply tx top primary w.key w.value w.ver) refl refl) (apply_each_leaves next tx top primary ws)

draw_leaves : (s : NodeState) (tx : TxId) (top : TopVer) (shares : List Share) (writes : List (Key × Option (List ℕ))) →
    LeavesAccesses s (after_draw s tx top shares writes)
draw_leaves s tx top shares writes =
    let drawn = drawn_writes top s.me s.order writes in
    let here : NodeState = record s { order = last_drawn s.order writes } in
    let kept = with_share here tx (new_share top shares drawn (backups_for s shares)) in
    sends_all s (after_draw s tx top shares writes) (backup_prepare_outs kept tx top shares drawn (backups_for s shares))
    (right_backup_prepares s.me kept tx top shares drawn (backups_for s shares)) refl

check_leaves : (s : NodeState) (from : NodeId) (tx : TxId) (top : TopVer) (shares : List Share) (wanted : List Wanted)
    (writes : List (Key × Option (List ℕ))) (why : Option Fail) → same_node tx.node from ≡ true →
    LeavesAccesses s (after_check s from tx top shares wanted writes why)
check_leaves s from tx top shares wanted writes None mine =
    andthen s (after_own_each s tx top wanted) (after_draw (after_own_each s tx top wanted) tx top shares writes)
    (own_each_leaves s tx top wanted) (draw_leaves (after_own_each s tx top wanted) tx top shares writes)
check_leaves s from tx top shares wanted writes (Some why) mine = sends s from (msg.PrepareFail tx why) mine

prepare_in_leaves : (s : NodeState) (from : NodeId) (tx : TxId) (top : TopVer) (how : Mode) (shares : List Share)
    (wanted : List Wanted) (writes : List (Key × Option (List ℕ))) → same_node tx.node from ≡ true →
    LeavesAccesses s (after_prepare_in s from tx top how shares wanted writes)
prepare_in_leaves s from tx top mode.Pessimistic shares wanted writes mine = draw_leaves s tx top shares writes
prepare_in_leaves s from tx top mode.Optimistic shares wanted writes mine = check_leaves s from tx top shares wanted writes
    (failed_check s tx wanted) mine

pub prepare_leaves : (s : NodeState) (from : NodeId) (tx : TxId) (top : TopVer) (how : Mode) (shares : List Share)
    (wanted : List Wanted) (writes : List (Key × Option (List ℕ))) → same_node tx.node from ≡ true →
    LeavesAccesses s (after_prepare s from tx top how shares wanted writes)
prepare_leaves s from tx top how shares wanted writes mine =
    andthen s (after_forget s tx) (after_prepare s from tx top how shares wanted writes) (aside s (after_forget s tx) refl)
    (prepare_in_leaves (after_forget s tx) from tx top how shares wanted writes mine)

backup_prepared_in_leaves : (s : NodeState) (from : NodeId) (tx : TxId) (st : ShareState) →
    LeavesAccesses s (after_backup_prepared_in s from tx st)
backup_prepared_in_leaves s from tx Preparing = on_share_leaves s tx _ (share_of s tx)
backup_prepared_in_leaves s from tx Prepared = nothing s
backup_prepared_in_leaves s from tx Committed = nothing s
backup_prepared_in_leaves s from tx Undoing = nothing s

pub backup_prepared_leaves : (s : NodeState) (from : NodeId) (tx : TxId) → LeavesAccesses s (after_backup_prepared s from tx)
backup_prepared_leaves s from tx = by (share_of s tx)
  where
    by : (o : Option OwnShare) → LeavesAccesses s (after_backup_prepared_of s from tx o)
    by None = nothing s
    by (Some h) = backup_prepared_in_leaves s from tx h.state

commit_share_leaves : (s : NodeState) (from : NodeId) (tx : TxId) (h : OwnShare) (nodes : List NodeId) →
    LeavesAccesses s (after_commit_share s from tx h nodes)
commit_share_leaves s from tx h nodes =
    let done = after_apply_each s tx h.top s.me h.writes in
    let begun = with_finish_begun done tx Committed from nodes (near_waits s h.writes) in
    let outs = backup_finish_outs tx s.me true nodes ++ near_outs s tx h.writes in
    andthen s done (with_outs begun outs) (apply_each_leaves s tx h.top s.me h.writes)
    (andthen done begun (with_outs begun outs) (on_share_leaves done tx _ (share_of done tx))
    (sends_all begun (with_outs begun outs) outs (all_of_both (is_sent_right begun.me) (backup_finish_outs tx s.me true nodes)
    (near_outs s tx h.writes) (right_to begun.me nodes (msg.BackupFinish tx s.me true) (λ x. refl))
    (right_near begun.me s tx h.writes)) refl))

undo_share_leaves : (s : NodeState) (from : NodeId) (tx : TxId) (nodes : List NodeId) →
    LeavesAccesses s (after_undo_share s from tx nodes)
undo_share_leaves s from tx nodes =
    let begun = with_finish_begun s tx Undoing from nodes [] in
    andthen s begun (after_undo_share s from tx nodes) (on_share_leaves s tx _ (share_of s tx))
    (sends_all begun (after_undo_share s from tx nodes) (backup_finish_outs tx s.me false nodes)
    (right_to begun.me nodes (msg.BackupFinish tx s.me false) (λ x. refl)) refl)

finish_in_leaves : (s : NodeState) (from : NodeId) (tx : TxId) (commit : Bool) (h : OwnShare) (st : ShareState) →
    LeavesAccesses s (after_finish_in s from tx commit h st)
finish_in_leaves s from tx true h Prepared = commit_share_leaves s from tx h (backups_for s h.shares)
finish_in_leaves s from tx true h Preparing = sends s from (msg.Finished tx) refl
finish_in_leaves s from tx true h Committed = sends s from (msg.Finished tx) refl
finish_in_leaves s from tx true h Undoing = sends s from (msg.Finished tx) refl
finish_in_leaves s from tx false h Prepared = undo_share_leaves s from tx (backups_for s h.shares)
finish_in_leaves s from tx false h Preparing = undo_share_leaves s from tx (backups_for s h.shares)
finish_in_leaves s from tx false h Committed = sends s from (msg.Finished tx) refl
finish_in_leaves s from tx false h Undoing = sends s from (msg.Finished tx) refl

finish_at_leaves : (s : NodeState) (from : NodeId) (tx : TxId) (commit : Bool) (h : OwnShare) (askers : List NodeId) →
    LeavesAccesses s (after_finish_at s from tx commit h askers)
finish_at_leaves s from tx commit h [] = finish_in_leaves s from tx commit h h.state
finish_at_leaves s from tx commit h (asker ∷ more) = on_share_leaves s tx _ (share_of s tx)

pub finish_leaves : (s : NodeState) (from : NodeId) (tx : TxId) (commit : Bool) →
    LeavesAccesses s (after_finish s from tx commit)
finish_leaves s from tx commit = by (share_of s tx)
  where
    by : (o : Option OwnShare) → LeavesAccesses s (after_finish_of s from tx commit o)
    by None = andthen s (after_release_all s tx) (with_out (after_release_all s tx) from (msg.Finished tx))
        (release_all_leaves s tx) (sends (after_release_all s tx) from (msg.Finished tx) refl)
    by (Some h) = finish_at_leaves s from tx commit h h.askers

backup_finished_in_leaves : (s : NodeState) (from : NodeId) (tx : TxId) (askers : List NodeId) →
    LeavesAccesses s (after_backup_finished_in s from tx askers)
backup_finished_in_leaves s from tx [] = nothing s
backup_finished_in_leaves s from tx (asker ∷ more) = on_share_leaves s tx _ (share_of s tx)

pub backup_finished_at_primary_leaves : (s : NodeState) (from : NodeId) (tx : TxId) (primary : NodeId) →
    LeavesAccesses s (after_backup_finished_at_primary s from tx primary)
backup_finished_at_primary_leaves s from tx primary = either s (after_backup_finished_of s from tx (share_of s tx)) s
    (same_node primary s.me) (by (share_of s tx)) (nothing s)
  where
    by : (o : Option OwnShare) → LeavesAccesses s (after_backup_finished_of s from tx o)
    by None = nothing s
    by (Some h) = backup_finished_in_leaves s from tx h.askers

pub near_done_leaves : (s : NodeState) (from : NodeId) (tx : TxId) (key : Key) →
    LeavesAccesses s (after_near_done s from tx key)
near_done_leaves s from tx key = on_share_leaves s tx _ (share_of s tx)

finished_share_leaves : (s : NodeState) (tx : TxId) (st : ShareState) → LeavesAccesses s (after_finished_share s tx st)
finished_share_leaves s tx Undoing = aside s (after_finished_share s tx Undoing) refl
finished_share_leaves s tx Preparing = on_share_leaves s tx _ (share_of s tx)
finished_share_leaves s tx Prepared = on_share_leaves s tx _ (share_of s tx)
finished_share_leaves s tx Committed = on_share_leaves s tx _ (share_of s tx)

end_finish_leaves : (s : NodeState) (tx : TxId) (h : OwnShare) → LeavesAccesses s (after_end_finish s tx h)
end_finish_leaves s tx h =
    let left = after_release_all s tx in
    let after = after_finished_share left tx h.state in
    andthen s left (after_end_finish s tx h) (release_all_leaves s tx)
    (andthen left after (after_end_finish s tx h) (finished_share_leaves left tx h.state)
    (sends_all after (after_end_finish s tx h) (outs_to h.askers (msg.Finished tx))
    (right_to after.me h.askers (msg.Finished tx) (λ x. refl)) refl))

share_prepared_leaves : (s : NodeState) (tx : TxId) → LeavesAccesses s (after_share_prepared s tx)
share_prepared_leaves s tx =
    let after = on_share s tx (λ (h : OwnShare). record h { state = Prepared }) (share_of s tx) in
    andthen s after (after_share_prepared s tx) (on_share_leaves s tx _ (share_of s tx))
    (sends after tx.node (msg.Prepared tx) (same_node_itself tx.node))

advance_share_in_leaves : (s : NodeState) (tx : TxId) (h : OwnShare) (awaited : List NodeId) (near : List NearWait)
    (askers : List NodeId) (st : ShareState) → LeavesAccesses s (after_advance_share_in s tx h awaited near askers st)
advance_share_in_leaves s tx h [] [] (asker ∷ more) st = end_finish_leaves s tx h
advance_share_in_leaves s tx h [] [] [] Preparing = share_prepared_leaves s tx
advance_share_in_leaves s tx h [] [] [] Prepared = nothing s
advance_share_in_leaves s tx h [] [] [] Committed = nothing s
advance_share_in_leaves s tx h [] [] [] Undoing = nothing s
advance_share_in_leaves s tx h [] (wait ∷ waits) [] Preparing = share_prepared_leaves s tx
advance_share_in_leaves s tx h [] (wait ∷ waits) [] Prepared = nothing s
advance_share_in_leaves s tx h [] (wait ∷ waits) [] Committed = nothing s
advance_share_in_leaves s tx h [] (wait ∷ waits) [] Undoing = nothing s
advance_share_in_leaves s tx h [] (wait ∷ waits) (asker ∷ more) st = nothing s
advance_share_in_leaves s tx h (first ∷ rest) near askers st = nothing s

advance_share_leaves : (s : NodeState) (tx : TxId) (o : Option OwnShare) → LeavesAccesses s (after_advance_share s tx o)
advance_share_leaves s tx None = nothing s
advance_share_leaves s tx (Some h) = advance_share_in_leaves s tx h h.awaited h.near h.askers h.state

pub advance_shares_leaves : (s : NodeState) (txs : List TxId) → LeavesAccesses s (after_advance_shares s txs)
advance_shares_leaves s [] = nothing s
advance_shares_leaves s (tx ∷ txs) =
    let next = after_advance_share s tx (share_of s tx) in
    andthen s next (after_advance_shares next txs) (advance_share_leaves s tx (share_of s tx)) (advance_shares_leaves next txs)

left_at_shares_leaves : (s : NodeState) (node : NodeId) (txs : List TxId) → LeavesAccesses s (after_left_at_shares s node txs)
left_at_shares_leaves s node [] = nothing s
left_at_shares_leaves s node (tx ∷ txs) =
    let next = on_share s tx (share_without_node node) (share_of s tx) in
    andthen s next (after_left_at_shares next node txs) (on_share_leaves s tx (share_without_node node) (share_of s tx))
    (left_at_shares_leaves next node txs)

pub left_at_primary_leaves : (s : NodeState) (node : NodeId) → LeavesAccesses s (after_left_at_primary s node)
left_at_primary_leaves s node =
    let here = after_left_at_shares s node (own_txs s) in
    andthen s here (after_left_at_primary s node) (left_at_shares_leaves s node (own_txs s))
    (aside here (record here { readers = without_reader here.readers node }) refl)

-- Backups and movers.

pub backup_prepare_leaves : (s : NodeState) (from : NodeId) (tx : TxId) (top : TopVer) (shares : List Share)
    (primary : NodeId) (writes : List Stored) → LeavesAccesses s (after_backup_prepare s from tx top shares primary writes)
backup_prepare_leaves s from tx top shares primary writes =
    sends_all s (after_backup_prepare s from tx top shares primary writes) (record { to = from; msg = msg.BackupPrepared tx }
    ∷ []) refl refl

commit_backup_leaves : (s : NodeState) (tx : TxId) (primary : NodeId) (h : BackupShare) →
    LeavesAccesses s (after_commit_backup s tx primary h)
commit_backup_leaves s tx primary h =
    let done = after_apply_each s tx h.top primary h.writes in
    andthen s done (after_commit_backup s tx primary h) (apply_each_leaves s tx h.top primary h.writes)
    (aside done (after_commit_backup s tx primary h) refl)

backup_finish_in_leaves : (s : NodeState) (tx : TxId) (primary : NodeId) (commit : Bool) (h : BackupShare) (st : ShareState) →
    LeavesAccesses s (after_backup_finish_in s tx primary commit h st)
backup_finish_in_leaves s tx primary true h Prepared = commit_backup_leaves s tx primary h
backup_finish_in_leaves s tx primary true h Preparing = nothing s
backup_finish_in_leaves s tx primary true h Committed = nothing s
backup_finish_in_leaves s tx primary true h Undoing = nothing s
backup_finish_in_leaves s tx primary false h st = aside s (without_backup s tx primary) refl

pub backup_finish_leaves : (s : NodeState) (from : NodeId) (tx : TxId) (primary : NodeId) (commit : Bool) →
    LeavesAccesses s (after_backup_finish s from tx primary commit)
backup_finish_leaves s from tx primary commit =
    let after = after_backup_finish_of s tx primary commit (backup_of s tx primary) in
    andthen s after (after_backup_finish s from tx primary commit) (by (backup_of s tx primary))
    (sends after from (msg.BackupFinished tx primary) refl)
  where
    by : (o : Option BackupShare) → LeavesAccesses s (after_backup_finish_of s tx primary commit o)
    by None = nothing s
    by (Some h) = backup_finish_in_leaves s tx primary commit h h.state

-- Filling.

pub demand_leaves : (s : NodeState) (from : NodeId) (top : TopVer) (part : ℕ) (after : Option Key) →
    LeavesAccesses s (after_demand s from top part after)
demand_leaves s from top part after =
    let copy = copy_at s.stores part in
    let m : Message = msg.Supply top part (batch_of copy after batch_size) (is_last_batch copy after batch_size) in
    either s (with_out s from m) s (is_installed s top) (sends s from m refl) (nothing s)

complete_part_leaves : (s : NodeState) (top : TopVer) (part : ℕ) → LeavesAccesses s (after_complete_part s top part)
complete_part_leaves s top part =
    let here : NodeState = record (with_copy s part (without_tombstones (copy_at s.stores part))) {
      complete = with_member nat_cmp s.complete part;
    } in
    andthen s here (after_claim_if_all here top) (aside s here refl)
    (either here (with_out_to_oldest here (msg.Complete top) (oldest_seen here)) here (all_filled here)
    (sends_to_oldest here (msg.Complete top) (oldest_seen here) (λ x. refl)) (nothing here))

supplied_leaves : (s : NodeState) (from : NodeId) (top : TopVer) (part : ℕ) (entries : List Stored) (last : Bool) →
    LeavesAccesses s (after_supplied s from top part entries last)
supplied_leaves s from top part entries true = complete_part_leaves s top part
supplied_leaves s from top part entries false = sends s from (msg.Demand top part (last_key entries)) refl

pub supply_leaves : (s : NodeState) (from : NodeId) (top : TopVer) (part : ℕ) (entries : List Stored) (last : Bool) →
    LeavesAccesses s (after_supply s from top part entries last)
supply_leaves s from top part entries last =
    let here = with_copy s part (copy_after_supply (copy_at s.stores part) entries) in
    either s (after_supplied here from top part entries last) s (is_installed s top)
    (andthen s here (after_supplied here from top part entries last) (aside s here refl)
    (supplied_leaves here from top part entries last)) (nothing s)

pub complete_leaves : (s : NodeState) (from : NodeId) (top : TopVer) → LeavesAccesses s (after_complete s from top)
complete_leaves s from top = aside s (after_complete s from top) refl

-- The exchange.

pub install_leaves : (s : NodeState) (m : PartMap) → LeavesAccesses s (after_install s m)
install_leaves s m = notes s (after_install s m) (note.Install m) refl refl

pub full_leaves : (s : NodeState) (from : NodeId) (m : PartMap) → LeavesAccesses s (after_full s from m)
full_leaves s from m = either s (with_out (after_install s m) from (msg.Installed m.top)) s (is_newer_map m s.installed)
    (andthen s (after_install s m) (with_out (after_install s m) from (msg.Installed m.top)) (install_leaves s m)
    (sends (after_install s m) from (msg.Installed m.top) refl)) (nothing s)

pub single_if_drained_leaves : (s : NodeState) → LeavesAccesses s (after_single_if_drained s)
single_if_drained_leaves s =
    let marked : NodeState = record s { single_sent = Some s.seen } in
    either s (after_send_single s) s (owes_single s)
    (andthen s marked (after_send_single s) (aside s marked refl)
    (sends_to_oldest marked (msg.Single s.seen s.installed s.complete) (oldest_seen s) (λ x. refl))) (nothing s)

-- Answers to a recoverer.

pub on_round_leaves : (s : NodeState) (f : Round → Round) (found : Option Round) → LeavesAccesses s (on_round s f found)
on_round_leaves s f None = nothing s
on_round_leaves s f (Some r) = aside s (record s { round = Some (f r) }) refl

pub finished_at_recoverer_leaves : (s : NodeState) (from : NodeId) (tx : TxId) →
    LeavesAccesses s (after_finished_at_recoverer s from tx)
finished_at_recoverer_leaves s from tx = on_round_leaves s _ s.round

pub backup_finished_at_recoverer_leaves : (s : NodeState) (from : NodeId) (tx : TxId) (primary : NodeId) →
    LeavesAccesses s (after_backup_finished_at_recoverer s from tx primary)
backup_finished_at_recoverer_leaves s from tx primary = on_round_leaves s _ s.round
