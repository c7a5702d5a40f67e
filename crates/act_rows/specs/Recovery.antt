-- What becomes of the transactions of a lost starter: each node lists what it holds of them, and the oldest member decides.
use Rattle.std.specs.List.{flat_map, list_all, list_any}
use Rattle.std.specs.Ordering.{ordering_then}
use Rattle.std.specs.Prelude.{Bool, None, Option, Some, [], false, filter, if◌then◌else◌, length, map, nat_eq, not, true, ℕ, ◌&&◌, ◌++◌, ◌||◌, ◌∷◌}
use Rattle.std.specs.declared.cmp.Ordering.{Ordering}
use Rattle.act_rows.specs.Decisions.{finishes_for_lost, orphaned_shares}
use Rattle.act_rows.specs.Steps.{is_live, live_among, lost_among, oldest_seen, outs_to, share_of, with_note, with_out_to_oldest, with_outs}
use Rattle.part_model.specs.Directory.{oldest_member}
use Rattle.part_model.specs.NextMap.{map_holders}
use Rattle.part_model.specs.Orders.{is_node}
use Rattle.part_model.specs.Queues.{queued_txs, with_members}
use Rattle.part_model.specs.Tables.{keys_in}
use Rattle.part_model.specs.Verdicts.{is_settled, shares_named, verdict}
use Rattle.ignite_types.specs.Good.{members}
use Rattle.ignite_types.specs.Names.{node_cmp, same_node, same_tx, share_cmp, tx_cmp}
use Rattle.ignite_types.specs.declared.list.List.{List}
use Rattle.ignite_types.specs.declared.message.Message.{Message}
use Rattle.ignite_types.specs.declared.message.Orphan.{Orphan}
use Rattle.ignite_types.specs.declared.message.Out.{Out}
use Rattle.ignite_types.specs.declared.names.NodeId.{NodeId}
use Rattle.ignite_types.specs.declared.names.TxId.{TxId}
use Rattle.ignite_types.specs.declared.placement.Share.{Share}
use Rattle.ignite_types.specs.declared.placement.ShareState.{ShareState}
use Rattle.ignite_types.specs.declared.scenario.Member.{Member}
use Rattle.node_state.specs.Node.{NodeState}
use Rattle.node_state.specs.declared.primary.BackupName.{BackupName}
use Rattle.node_state.specs.declared.primary.BackupShare.{BackupShare}
use Rattle.node_state.specs.declared.primary.OwnShare.{OwnShare}
use Rattle.node_state.specs.declared.topology.BackupWait.{BackupWait}
use Rattle.node_state.specs.declared.topology.FinishWait.{FinishWait}
use Rattle.node_state.specs.declared.topology.Report.{Report}
use Rattle.node_state.specs.declared.topology.Round.{Round}
use Rattle.ordered_set.specs.Members.{has, with_member, without_member}
use Rattle.ordered_table.specs.Entries.{at, put}
use Rattle.ignite_types.specs.declared.message.Message.TheVariants as msg
use Rattle.ignite_types.specs.declared.journal.Rec.TheVariants as note

-- What a node holds.

abbrev pub backup_txs : List (BackupName × BackupShare) → List TxId
backup_txs backups = map (λ (e : BackupName × BackupShare). e.0.tx) backups

-- the transactions of which a lock, a waiting place or a share is here, ascending
abbrev pub held_txs : NodeState → List TxId
held_txs s = with_members
    (with_members (queued_txs s.queues) (keys_in s.shares))
    (backup_txs s.backups)

abbrev pub lost_starters : NodeState → List TxId → List TxId
lost_starters s txs = filter (λ (tx : TxId). not (is_live s tx.node)) txs

abbrev pub orphan_txs : NodeState → List TxId
orphan_txs s = lost_starters s (held_txs s)

abbrev pub with_backup_held : NodeId → TxId → List (Share × ShareState) → BackupName × BackupShare → List (Share × ShareState)
with_backup_held me tx map_holders e =
    if same_tx e.0.tx tx then put share_cmp map_holders (record { holder = me; primary = e.0.primary }) e.1.state else
    map_holders

-- the shares of a transaction that are held for other primaries, with their states
abbrev pub held_backups_from : NodeId → TxId → List (Share × ShareState) → List (BackupName × BackupShare) →
    List (Share × ShareState)
held_backups_from me tx map_holders [] = map_holders
held_backups_from me tx map_holders (e ∷ es) = held_backups_from me tx (with_backup_held me tx map_holders e) es

abbrev pub held_backups : NodeId → List (BackupName × BackupShare) → TxId → List (Share × ShareState)
held_backups me backups tx = held_backups_from me tx [] backups

abbrev pub with_own : NodeId → List (Share × ShareState) → Option OwnShare → List (Share × ShareState)
with_own me map_holders None = map_holders
with_own me map_holders (Some h) = put share_cmp map_holders (record { holder = me; primary = me }) h.state

-- the node's shares of a transaction with their states, ascending
abbrev pub held_shares_of : NodeState → TxId → List (Share × ShareState)
held_shares_of s tx = with_own s.me (held_backups s.me s.backups tx) (share_of s tx)

-- all shares of a transaction, as the first share that is held for another primary names them
abbrev pub backup_shares : List (BackupName × BackupShare) → TxId → List Share
backup_shares [] tx = []
backup_shares (e ∷ es) tx = if same_tx e.0.tx tx then e.1.shares else backup_shares es tx

-- all shares of a transaction, as a share here names them
abbrev pub shares_known : NodeState → TxId → Option OwnShare → List Share
shares_known s tx (Some h) = h.shares
shares_known s tx None = backup_shares s.backups tx

-- what is here of one transaction, where these stand in queues
abbrev pub orphan_of : NodeState → List TxId → TxId → Orphan
orphan_of s standing tx = record {
  tx = tx;
  shares = shares_known s tx (share_of s tx);
  held = held_shares_of s tx;
  locks = has tx_cmp standing tx;
}

abbrev pub orphans_among : NodeState → List TxId → List TxId → List Orphan
orphans_among s standing txs = map (orphan_of s standing) txs

abbrev pub orphans_of : NodeState → List Orphan
orphans_of s = orphans_among s (queued_txs s.queues) (orphan_txs s)

-- A loss begins a new round.

abbrev pub new_round : ℕ → List Member → Round
new_round place members = record { place = place; members = members; acted = false; finishes = []; backups = [] }

abbrev pub orphans_message : NodeState → ℕ → Message
orphans_message s round = msg.Orphans round (orphans_of s)

abbrev pub after_send_orphans : NodeState → ℕ → NodeState
after_send_orphans s round = with_out_to_oldest s (orphans_message s round) (oldest_seen s)

abbrev pub with_new_round : NodeState → ℕ → NodeState
with_new_round s place = record s { round = Some (new_round place s.members) }

-- the round before is over; this node's list goes to the oldest member
abbrev pub after_begin_round : NodeState → ℕ → NodeState
after_begin_round s place = after_send_orphans (with_new_round s place) place

-- The verdicts.

abbrev pub reports_for : List Report → ℕ → List Report
reports_for reports place = filter (λ (r : Report). nat_eq r.round place) reports

abbrev pub has_report : List Report → NodeId → Bool
has_report reports node = list_any (λ (r : Report). same_node r.from node) reports

abbrev pub all_reported : List Member → List Report → Bool
all_reported members reports = list_all (λ (m : Member). has_report reports m.node) members

abbrev pub orphan_names : List Orphan → List TxId
orphan_names list = map (λ (o : Orphan). o.tx) list

abbrev pub names_from : List TxId → List Report → List TxId
names_from set [] = set
names_from set (r ∷ rs) = names_from (with_members set (orphan_names r.list)) rs

abbrev pub names_of : List Report → List TxId
names_of reports = names_from [] reports

abbrev pub orphans_of_tx : TxId → List Orphan → List Orphan
orphans_of_tx tx list = filter (λ (o : Orphan). same_tx o.tx tx) list

-- what one list says of a transaction
abbrev pub orphans_in : TxId → Report → List Orphan
orphans_in tx r = orphans_of_tx tx r.list

abbrev pub orphans_for : TxId → List Report → List Orphan
orphans_for tx reports = flat_map (orphans_in tx) reports

-- whether a list has a lock or a waiting place of the transaction
abbrev pub has_locks : TxId → Report → Bool
has_locks tx r = list_any (λ (o : Orphan). same_tx o.tx tx && o.locks) r.list

abbrev pub lockers : TxId → List Report → List NodeId
lockers tx [] = []
lockers tx (r ∷ rs) = if has_locks tx r then r.from ∷ lockers tx rs else lockers tx rs

abbrev pub with_nodes : List NodeId → List NodeId → List NodeId
with_nodes set [] = set
with_nodes set (node ∷ nodes) = with_nodes (with_member node_cmp set node) nodes

abbrev pub primaries_among : List NodeId → List Share → List NodeId
primaries_among set [] = set
primaries_among set (h ∷ hs) = primaries_among (with_member node_cmp set h.primary) hs

abbrev pub primaries_of : List Share → List NodeId
primaries_of shares = primaries_among [] shares

-- each live primary, and each node that has a lock or a waiting place
abbrev pub finish_nodes : NodeState → List Share → List NodeId → List NodeId
finish_nodes s shares nodes = with_nodes (live_among s (primaries_of shares)) nodes

abbrev pub finish_wait_cmp : FinishWait → FinishWait → Ordering
finish_wait_cmp a b = ordering_then (tx_cmp a.tx b.tx) (node_cmp a.node b.node)

abbrev pub backup_wait_cmp : BackupWait → BackupWait → Ordering
backup_wait_cmp a b =
    ordering_then (tx_cmp a.tx b.tx) (ordering_then (node_cmp a.primary b.primary) (node_cmp a.holder b.holder))

abbrev pub with_finish_waits : List FinishWait → TxId → List NodeId → List FinishWait
with_finish_waits set tx [] = set
with_finish_waits set tx (node ∷ nodes) =
    with_finish_waits (with_member finish_wait_cmp set (record { tx = tx; node = node })) tx nodes

abbrev pub with_backup_waits : List BackupWait → TxId → List Share → List BackupWait
with_backup_waits set tx [] = set
with_backup_waits set tx (h ∷ hs) =
    with_backup_waits (with_member backup_wait_cmp set (record { tx = tx; primary = h.primary; holder = h.holder })) tx hs

abbrev pub on_round : NodeState → (Round → Round) → Option Round → NodeState
on_round s f None = s
on_round s f (Some r) = record s { round = Some (f r) }

abbrev pub with_verdict_awaited : NodeState → TxId → List NodeId → List Share → NodeState
with_verdict_awaited s tx nodes backups = on_round s (λ (r : Round). record r {
  finishes = with_finish_waits r.finishes tx nodes;
  backups = with_backup_waits r.backups tx backups;
}) s.round

-- Finish, then BackupFinish for lost primaries
abbrev pub verdict_outs : NodeState → TxId → Bool → List Share → List NodeId → List Out
verdict_outs s tx commit shares nodes =
    outs_to nodes (msg.Finish tx commit) ++ finishes_for_lost s tx commit shares (lost_among s (primaries_of shares))

-- the verdict is kept and noted, and all that hold something of the transaction are told
abbrev pub after_give_verdict : NodeState → TxId → Bool → List Share → List NodeId → NodeState
after_give_verdict s tx commit shares nodes = with_outs
    (with_verdict_awaited (with_note (record s { verdicts = put tx_cmp s.verdicts tx commit }) (note.Decide tx commit)) tx
    (finish_nodes s shares nodes) (orphaned_shares s shares))
    (outs_to (finish_nodes s shares nodes) (msg.Finish tx commit)
    ++ finishes_for_lost s tx commit shares (lost_among s (primaries_of shares)))

-- one transaction that was named
abbrev pub after_judge : NodeState → TxId → List Member → List Orphan → List NodeId → NodeState
after_judge s tx members orphans nodes = if is_settled orphans
    then s
    else after_give_verdict s tx (verdict (at tx_cmp s.verdicts tx) orphans members) (shares_named orphans) nodes

abbrev pub after_judge_each : NodeState → List Member → List Report → List TxId → NodeState
after_judge_each s members reports [] = s
after_judge_each s members reports (tx ∷ txs) =
    after_judge_each (after_judge s tx members (orphans_for tx reports) (lockers tx reports)) members reports txs

abbrev pub with_round_acted : NodeState → NodeState
with_round_acted s = on_round s (λ (r : Round). record r { acted = true }) s.round

abbrev pub after_act_on_round : NodeState → List Member → List Report → NodeState
after_act_on_round s members reports = after_judge_each (with_round_acted s) members reports (names_of reports)

abbrev pub after_recover_with : NodeState → Round → List Report → NodeState
after_recover_with s r reports = if all_reported r.members reports then after_act_on_round s r.members reports else s

-- the recoverer acts once it has the lists of all members
abbrev pub is_recoverer : NodeState → Round → Bool
is_recoverer s r = is_node s.me (oldest_member r.members)

abbrev pub after_recover_if_all : NodeState → Option Round → NodeState
after_recover_if_all s None = s
after_recover_if_all s (Some r) =
    if is_recoverer s r && not r.acted then after_recover_with s r (reports_for s.reports r.place) else s

abbrev pub with_report : NodeState → Report → NodeState
with_report s r = record s { reports = s.reports ++ r ∷ [] }

-- Orphans: kept under its round
abbrev pub after_orphans : NodeState → NodeId → ℕ → List Orphan → NodeState
after_orphans s from round list = let here = record s {
  reports = s.reports ++ record { round = round; from = from; list = list } ∷ [];
} in after_recover_if_all here here.round

-- answers to the recoverer

abbrev pub after_finished_at_recoverer : NodeState → NodeId → TxId → NodeState
after_finished_at_recoverer s from tx = on_round s (λ (r : Round). record r {
  finishes = without_member finish_wait_cmp r.finishes (record { tx = tx; node = from });
}) s.round

abbrev pub after_backup_finished_at_recoverer : NodeState → NodeId → TxId → NodeId → NodeState
after_backup_finished_at_recoverer s from tx primary = on_round s (λ (r : Round). record r {
  backups = without_member backup_wait_cmp r.backups (record { tx = tx; primary = primary; holder = from });
}) s.round

-- nothing is awaited in the round any more
abbrev pub is_round_settled : Round → Bool
is_round_settled r = r.acted && nat_eq (length r.finishes) 0 && nat_eq (length r.backups) 0

-- a recoverer is not drained before its round is settled
abbrev pub is_recovery_settled : NodeState → Option Round → Bool
is_recovery_settled s None = true
is_recovery_settled s (Some r) = not (is_recoverer s r) || is_round_settled r
