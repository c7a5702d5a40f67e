-- A primary's part in both phases: Prepare and Finish, and what follows when no answer is awaited any more.
use Rattle.std.specs.List.{flat_map}
use Rattle.std.specs.Ordering.{match_ordering, ordering_then}
use Rattle.std.specs.Prelude.{Bool, None, Option, Some, [], false, filter, if◌then◌else◌, map, nat_lt, not, true, ℕ, ◌&&◌, ◌++◌, ◌==◌, ◌∷◌}
use Rattle.std.specs.declared.cmp.Ordering.{Ordering}
use Rattle.act_rows.specs.Commands.{moment_after}
use Rattle.act_rows.specs.Decisions.{backup_finish_outs}
use Rattle.act_rows.specs.Locks.{after_own_each, after_release_all}
use Rattle.act_rows.specs.Steps.{backup_cmp, is_holder, live_holders, on_share, outs_to, share_of, with_out, with_outs, with_share}
use Rattle.act_rows.specs.Stores.{after_apply_each, found_at, version_of}
use Rattle.part_model.specs.NearEntries.{readers_of, without_reader}
use Rattle.part_model.specs.Orders.{next_count}
use Rattle.part_model.specs.Queues.{first_blocked}
use Rattle.part_model.specs.Tables.{keys_in, keys_where, without_each}
use Rattle.ignite_types.specs.Names.{key_cmp, node_cmp, same_node, tx_cmp, version_cmp}
use Rattle.ignite_types.specs.declared.answer.Fail.{Fail}
use Rattle.ignite_types.specs.declared.list.List.{List}
use Rattle.ignite_types.specs.declared.message.Out.{Out}
use Rattle.ignite_types.specs.declared.message.Stored.{Stored}
use Rattle.ignite_types.specs.declared.message.Wanted.{Wanted}
use Rattle.ignite_types.specs.declared.names.CacheVersion.{CacheVersion}
use Rattle.ignite_types.specs.declared.names.NodeId.{NodeId}
use Rattle.ignite_types.specs.declared.names.TopVer.{TopVer}
use Rattle.ignite_types.specs.declared.names.TxId.{TxId}
use Rattle.ignite_types.specs.declared.placement.Share.{Share}
use Rattle.ignite_types.specs.declared.placement.ShareState.{ShareState}
use Rattle.ignite_types.specs.declared.placement.ShareState.TheVariants.{Committed, Prepared, Preparing, Undoing}
use Rattle.ignite_types.specs.declared.scenario.Mode.{Mode}
use Rattle.ignite_types.specs.declared.text.Key.{Key}
use Rattle.node_state.specs.Node.{NodeState}
use Rattle.node_state.specs.declared.primary.BackupName.{BackupName}
use Rattle.node_state.specs.declared.primary.BackupShare.{BackupShare}
use Rattle.node_state.specs.declared.primary.NearWait.{NearWait}
use Rattle.node_state.specs.declared.primary.OwnShare.{OwnShare}
use Rattle.ordered_set.specs.Members.{has, with_member, without_member}
use Rattle.ordered_table.specs.Entries.{without}
use Rattle.ignite_types.specs.declared.answer.Fail.TheVariants as fail
use Rattle.ignite_types.specs.declared.scenario.Mode.TheVariants as mode
use Rattle.ignite_types.specs.declared.message.Message.TheVariants as msg

-- Forgetting: a Committed share of an earlier transaction of the same session, all of which have ended.

abbrev pub is_forgettable : TxId → TxId → ShareState → Bool
is_forgettable tx u Committed = same_node tx.node u.node && (tx.session == u.session) && nat_lt u.number tx.number
is_forgettable tx u _ = false

-- the earlier transactions of its session are forgotten where they are Committed
abbrev pub after_forget : NodeState → TxId → NodeState
after_forget s tx = record s {
  shares = without_each tx_cmp s.shares (keys_where (λ (e : TxId × OwnShare). is_forgettable tx e.0 e.1.state) s.shares);
  backups = without_each backup_cmp s.backups
      (keys_where (λ (e : BackupName × BackupShare). is_forgettable tx e.0.tx e.1.state) s.backups);
}

-- Prepare.

abbrev pub candidate_of : Option (Key × TxId) → Option Fail
candidate_of None = None
candidate_of (Some (key, holder)) = Some (fail.Candidate key holder)

abbrev pub changed_unless_same : Key → CacheVersion → CacheVersion → Option Fail → Option Fail
changed_unless_same key had has moment_after =
    match_ordering (version_cmp had has) (Some (fail.Changed key had has)) moment_after (Some (fail.Changed key had has))

abbrev pub changed_at : Key → Option CacheVersion → CacheVersion → Option Fail → Option Fail
changed_at key None has moment_after = moment_after
changed_at key (Some had) has moment_after = changed_unless_same key had has moment_after

-- the first remembered version that differs from the copy's
abbrev pub first_changed : NodeState → List Wanted → Option Fail
first_changed s [] = None
first_changed s (w ∷ ws) = changed_at w.key w.had (version_of (found_at s w.key)) (first_changed s ws)

abbrev pub or_changed : Option Fail → Option Fail → Option Fail
or_changed (Some why) changed = Some why
or_changed None changed = changed

abbrev pub wanted_keys : List Wanted → List Key
wanted_keys wanted = map (λ (w : Wanted). w.key) wanted

-- the test of an optimistic prepare: another owner first, then a changed version
abbrev pub failed_check : NodeState → TxId → List Wanted → Option Fail
failed_check s tx wanted = or_changed (candidate_of (first_blocked s.queues (wanted_keys wanted) tx)) (first_changed s wanted)

-- the written entries, with the versions that are drawn for them one after the other
abbrev pub drawn_writes : TopVer → NodeId → ℕ → List (Key × Option (List ℕ)) → List Stored
drawn_writes top me order [] = []
drawn_writes top me order (w ∷ ws) =
    record { key = w.0; value = w.1; ver = record { top = top; order = next_count order; node = me } } ∷ drawn_writes top me
    (next_count order) ws

-- the last number drawn after these writes
abbrev pub last_drawn : ℕ → List (Key × Option (List ℕ)) → ℕ
last_drawn order [] = order
last_drawn order (w ∷ ws) = last_drawn (next_count order) ws

-- the live holders of this primary's shares but itself
abbrev pub backups_for : NodeState → List Share → List NodeId
backups_for s shares = filter (λ (n : NodeId). not (same_node n s.me)) (live_holders s shares s.me)

-- the writes of the partitions that a node holds
abbrev pub writes_held_by : NodeState → NodeId → List Stored → List Stored
writes_held_by s node writes = filter (λ (w : Stored). is_holder s node w.key) writes

abbrev pub backup_prepare_outs : NodeState → TxId → TopVer → List Share → List Stored → List NodeId → List Out
backup_prepare_outs s tx top shares writes [] = []
backup_prepare_outs s tx top shares writes (node ∷ more) =
    record { to = node; msg = msg.BackupPrepare tx top shares s.me (writes_held_by s node writes) }
    ∷ backup_prepare_outs s tx top shares writes more

abbrev pub new_share : TopVer → List Share → List Stored → List NodeId → OwnShare
new_share top shares writes awaited =
    record { top = top; shares = shares; writes = writes; state = Preparing; awaited = awaited; near = []; askers = [] }

-- the share is Preparing until each backup has confirmed it
abbrev pub after_begin_share : NodeState → TxId → TopVer → List Share → List Stored → List NodeId → NodeState
after_begin_share s tx top shares writes nodes =
    with_outs (with_share s tx (new_share top shares writes nodes)) (backup_prepare_outs s tx top shares writes nodes)

abbrev pub after_draw : NodeState → TxId → TopVer → List Share → List (Key × Option (List ℕ)) → NodeState
after_draw s tx top shares writes = after_begin_share (record s { order = last_drawn s.order writes }) tx top shares
    (drawn_writes top s.me s.order writes) (backups_for s shares)

abbrev pub after_check : NodeState → NodeId → TxId → TopVer → List Share → List Wanted → List (Key × Option (List ℕ)) →
    Option Fail → NodeState
after_check s from tx top shares wanted writes None = after_draw (after_own_each s tx top wanted) tx top shares writes
after_check s from tx top shares wanted writes (Some why) = with_out s from (msg.PrepareFail tx why)

abbrev pub after_prepare_in : NodeState → NodeId → TxId → TopVer → Mode → List Share → List Wanted →
    List (Key × Option (List ℕ)) → NodeState
after_prepare_in s from tx top mode.Pessimistic shares wanted writes = after_draw s tx top shares writes
after_prepare_in s from tx top mode.Optimistic shares wanted writes =
    after_check s from tx top shares wanted writes (failed_check s tx wanted)

-- Prepare: a check and the locks in optimistic mode, the versions of the writes, and the share
abbrev pub after_prepare : NodeState → NodeId → TxId → TopVer → Mode → List Share → List Wanted →
    List (Key × Option (List ℕ)) → NodeState
after_prepare s from tx top mode shares wanted writes =
    after_prepare_in (after_forget s tx) from tx top mode shares wanted writes

-- BackupPrepared counts while the share is Preparing
abbrev pub after_backup_prepared_in : NodeState → NodeId → TxId → ShareState → NodeState
after_backup_prepared_in s from tx Preparing =
    on_share s tx (λ (h : OwnShare). record h { awaited = without_member node_cmp h.awaited from }) (share_of s tx)
after_backup_prepared_in s from tx _ = s

abbrev pub after_backup_prepared_of : NodeState → NodeId → TxId → Option OwnShare → NodeState
after_backup_prepared_of s from tx None = s
after_backup_prepared_of s from tx (Some h) = after_backup_prepared_in s from tx h.state

abbrev pub after_backup_prepared : NodeState → NodeId → TxId → NodeState
after_backup_prepared s from tx = after_backup_prepared_of s from tx (share_of s tx)

-- Finish.

-- one update to each reader of a written key but this node
abbrev pub readers_but_me : NodeState → Key → List NodeId
readers_but_me s key = filter (λ (n : NodeId). not (same_node n s.me)) (readers_of s.readers key)

abbrev pub near_outs : NodeState → TxId → List Stored → List Out
near_outs s tx writes =
    flat_map (λ (w : Stored). outs_to (readers_but_me s w.key) (msg.NearUpdate tx w.key w.value w.ver)) writes

abbrev pub near_waits : NodeState → List Stored → List NearWait
near_waits s writes =
    flat_map (λ (w : Stored). map (λ (n : NodeId). record { key = w.key; node = n }) (readers_but_me s w.key)) writes

-- a finish begins: the share takes this state, and the node that asked is kept
abbrev pub with_finish_begun : NodeState → TxId → ShareState → NodeId → List NodeId → List NearWait → NodeState
with_finish_begun s tx st from nodes near =
    on_share s tx (λ (h : OwnShare). record h { state = st; awaited = nodes; near = near; askers = from ∷ [] }) (share_of s tx)

-- the writes are done, and each backup, mover and reader is told
abbrev pub after_commit_share : NodeState → NodeId → TxId → OwnShare → List NodeId → NodeState
after_commit_share s from tx h nodes = with_outs
    (with_finish_begun (after_apply_each s tx h.top s.me h.writes) tx Committed from nodes (near_waits s h.writes))
    (backup_finish_outs tx s.me true nodes ++ near_outs s tx h.writes)

abbrev pub after_undo_share : NodeState → NodeId → TxId → List NodeId → NodeState
after_undo_share s from tx nodes =
    with_outs (with_finish_begun s tx Undoing from nodes []) (backup_finish_outs tx s.me false nodes)

-- Finish where no finish is in work, by the share's state
abbrev pub after_finish_in : NodeState → NodeId → TxId → Bool → OwnShare → ShareState → NodeState
after_finish_in s from tx true h Prepared = after_commit_share s from tx h (backups_for s h.shares)
after_finish_in s from tx false h Prepared = after_undo_share s from tx (backups_for s h.shares)
after_finish_in s from tx false h Preparing = after_undo_share s from tx (backups_for s h.shares)
after_finish_in s from tx _ h _ = with_out s from (msg.Finished tx)

-- one more node asked for the finish in work
abbrev pub with_asker : NodeState → TxId → NodeId → NodeState
with_asker s tx from =
    on_share s tx (λ (h : OwnShare). record h { askers = with_member node_cmp h.askers from }) (share_of s tx)

abbrev pub after_finish_at : NodeState → NodeId → TxId → Bool → OwnShare → List NodeId → NodeState
after_finish_at s from tx commit h [] = after_finish_in s from tx commit h h.state
after_finish_at s from tx commit h (asker ∷ more) = with_asker s tx from

abbrev pub after_finish_of : NodeState → NodeId → TxId → Bool → Option OwnShare → NodeState
after_finish_of s from tx commit None = with_out (after_release_all s tx) from (msg.Finished tx)
after_finish_of s from tx commit (Some h) = after_finish_at s from tx commit h h.askers

-- Finish: a Prepared share is committed or undone; without a share the places of the transaction are left at once
abbrev pub after_finish : NodeState → NodeId → TxId → Bool → NodeState
after_finish s from tx commit = after_finish_of s from tx commit (share_of s tx)

-- BackupFinished counts while a finish is in work
abbrev pub after_backup_finished_in : NodeState → NodeId → TxId → List NodeId → NodeState
after_backup_finished_in s from tx [] = s
after_backup_finished_in s from tx (asker ∷ more) =
    on_share s tx (λ (h : OwnShare). record h { awaited = without_member node_cmp h.awaited from }) (share_of s tx)

abbrev pub after_backup_finished_of : NodeState → NodeId → TxId → Option OwnShare → NodeState
after_backup_finished_of s from tx None = s
after_backup_finished_of s from tx (Some h) = after_backup_finished_in s from tx h.askers

abbrev pub after_backup_finished_at_primary : NodeState → NodeId → TxId → NodeId → NodeState
after_backup_finished_at_primary s from tx primary =
    if same_node primary s.me then after_backup_finished_of s from tx (share_of s tx) else s

abbrev pub near_wait_cmp : NearWait → NearWait → Ordering
near_wait_cmp a b = ordering_then (key_cmp a.key b.key) (node_cmp a.node b.node)

-- NearDone: the reader is no longer awaited
abbrev pub after_near_done : NodeState → NodeId → TxId → Key → NodeState
after_near_done s from tx key = on_share s tx (λ (h : OwnShare). record h {
  near = without_member near_wait_cmp h.near (record { key = key; node = from });
}) (share_of s tx)

-- What follows when no answer is awaited any more.

-- no finish is in work any more
abbrev pub with_finish_ended : NodeState → TxId → NodeState
with_finish_ended s tx = on_share s tx (λ (h : OwnShare). record h { askers = [] }) (share_of s tx)

-- a finished share stays as Committed, or is dropped
abbrev pub after_finished_share : NodeState → TxId → ShareState → NodeState
after_finished_share s tx Undoing = record s { shares = without tx_cmp s.shares tx }
after_finished_share s tx _ = with_finish_ended s tx

-- the end of a finish: the places are left, and each node that asked is told
abbrev pub after_end_finish : NodeState → TxId → OwnShare → NodeState
after_end_finish s tx h =
    with_outs (after_finished_share (after_release_all s tx) tx h.state) (outs_to h.askers (msg.Finished tx))

-- the share is prepared, and its starter is told
abbrev pub after_share_prepared : NodeState → TxId → NodeState
after_share_prepared s tx =
    with_out (on_share s tx (λ (h : OwnShare). record h { state = Prepared }) (share_of s tx)) tx.node (msg.Prepared tx)

abbrev pub after_advance_share_in : NodeState → TxId → OwnShare → List NodeId → List NearWait → List NodeId → ShareState →
    NodeState
after_advance_share_in s tx h [] [] (asker ∷ more) st = after_end_finish s tx h
after_advance_share_in s tx h [] near [] Preparing = after_share_prepared s tx
after_advance_share_in s tx h awaited near askers st = s

abbrev pub after_advance_share : NodeState → TxId → Option OwnShare → NodeState
after_advance_share s tx None = s
after_advance_share s tx (Some h) = after_advance_share_in s tx h h.awaited h.near h.askers h.state

abbrev pub after_advance_shares : NodeState → List TxId → NodeState
after_advance_shares s [] = s
after_advance_shares s (tx ∷ txs) = after_advance_shares (after_advance_share s tx (share_of s tx)) txs

abbrev pub own_txs : NodeState → List TxId
own_txs s = keys_in s.shares

-- A primary sees a node leave: it is awaited no more, and is no reader.

abbrev pub share_without_node : NodeId → OwnShare → OwnShare
share_without_node node h = record h {
  awaited = without_member node_cmp h.awaited node;
  near = filter (λ (w : NearWait). not (same_node w.node node)) h.near;
}

abbrev pub after_left_at_shares : NodeState → NodeId → List TxId → NodeState
after_left_at_shares s node [] = s
after_left_at_shares s node (tx ∷ txs) =
    after_left_at_shares (on_share s tx (share_without_node node) (share_of s tx)) node txs

abbrev pub after_left_at_primary : NodeState → NodeId → NodeState
after_left_at_primary s node =
    let here = after_left_at_shares s node (own_txs s) in record here { readers = without_reader here.readers node }
