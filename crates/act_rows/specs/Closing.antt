-- What a node does at the end of each act: what awaits nothing any more goes on, what waits for the version starts, and a
-- drained node sends its Single.
use Rattle.std.specs.List.{list_all}
use Rattle.std.specs.Prelude.{Bool, None, Option, Some, [], false, if◌then◌else◌, is_none, length, nat_eq, not, true, ◌&&◌, ◌∷◌}
use Rattle.act_rows.specs.Decisions.{after_decide, after_end_tx, txs_of}
use Rattle.act_rows.specs.Exchange.{is_kept_commit}
use Rattle.act_rows.specs.Primary.{after_advance_shares, own_txs}
use Rattle.act_rows.specs.Recovery.{is_recovery_settled}
use Rattle.act_rows.specs.Starts.{after_start_all}
use Rattle.act_rows.specs.Steps.{entry_of, is_installed, oldest_seen, with_out, with_out_to_oldest}
use Rattle.ignite_types.specs.Names.{same_top}
use Rattle.ignite_types.specs.declared.list.List.{List}
use Rattle.ignite_types.specs.declared.names.NodeId.{NodeId}
use Rattle.ignite_types.specs.declared.names.TopVer.{TopVer}
use Rattle.ignite_types.specs.declared.names.TxId.{TxId}
use Rattle.ignite_types.specs.declared.placement.Share.{Share}
use Rattle.node_state.specs.declared.near.TxEntry.{TxEntry}
use Rattle.node_state.specs.declared.near.TxState.{TxState}
use Rattle.node_state.specs.Node.{NodeState}
use Rattle.node_state.specs.declared.primary.BackupName.{BackupName}
use Rattle.node_state.specs.declared.primary.BackupShare.{BackupShare}
use Rattle.node_state.specs.declared.primary.OwnShare.{OwnShare}
use Rattle.ignite_types.specs.declared.message.Message.TheVariants as msg
use Rattle.node_state.specs.declared.near.TxState.TheVariants as state

-- A transaction that awaits no answer of its phase goes on: it is decided, or it has ended.

abbrev pub after_phase : NodeState → TxId → TxEntry → TxState → NodeState
after_phase s tx e state.Preparing = after_decide s tx true
after_phase s tx e state.Committing = after_end_tx s tx e.state e.outcome e.fault
after_phase s tx e state.RollingBack = after_end_tx s tx e.state e.outcome e.fault
after_phase s tx e _ = s

abbrev pub after_advance_tx_in : NodeState → TxId → TxEntry → List NodeId → List Share → NodeState
after_advance_tx_in s tx e [] [] = after_phase s tx e e.state
after_advance_tx_in s tx e _ _ = s

abbrev pub after_advance_tx : NodeState → TxId → Option TxEntry → NodeState
after_advance_tx s tx None = s
after_advance_tx s tx (Some e) = after_advance_tx_in s tx e e.awaited e.backups

abbrev pub after_advance_each_tx : NodeState → List TxId → NodeState
after_advance_each_tx s [] = s
after_advance_each_tx s (tx ∷ txs) = after_advance_each_tx (after_advance_tx s tx (entry_of s tx)) txs

abbrev pub after_advance_starter : NodeState → NodeState
after_advance_starter s = after_advance_each_tx s (txs_of s)

-- Whether all older work has ended here.

abbrev pub is_tx_over : TxEntry → TxState → Bool
is_tx_over e state.Ended = true
is_tx_over e _ = is_none e.top

-- a share that is Committed, with no finish in work
abbrev pub is_done_share : OwnShare → Bool
is_done_share h = is_kept_commit h.state && nat_eq (length h.askers) 0

abbrev pub all_txs_over : List (TxId × TxEntry) → Bool
all_txs_over txs = list_all (λ (e : TxId × TxEntry). is_tx_over e.1 e.1.state) txs

abbrev pub all_shares_done : List (TxId × OwnShare) → Bool
all_shares_done shares = list_all (λ (e : TxId × OwnShare). is_done_share e.1) shares

abbrev pub all_committed_backups : List (BackupName × BackupShare) → Bool
all_committed_backups backups = list_all (λ (e : BackupName × BackupShare). is_kept_commit e.1.state) backups

-- no transaction with a version is open here, no lock or waiting place is held, no share is open, no finish is in work,
-- and a recoverer's round is settled
abbrev pub is_drained : NodeState → Bool
is_drained s = all_txs_over s.txs
    && nat_eq (length s.queues) 0
    && all_shares_done s.shares
    && all_committed_backups s.backups
    && is_recovery_settled s s.round

abbrev pub was_sent : TopVer → Option TopVer → Bool
was_sent top None = false
was_sent top (Some with_out) = same_top with_out top

abbrev pub owes_single : NodeState → Bool
owes_single s = not (is_installed s s.seen) && not (was_sent s.seen s.single_sent) && is_drained s

abbrev pub after_send_single : NodeState → NodeState
after_send_single s =
    with_out_to_oldest (record s { single_sent = Some s.seen }) (msg.Single s.seen s.installed s.complete) (oldest_seen s)

-- a drained node that has not installed the last version seen sends its Single once
abbrev pub after_single_if_drained : NodeState → NodeState
after_single_if_drained s = if owes_single s then after_send_single s else s

-- the primary's shares go on first, then the near side; what starts goes on in the same act
abbrev pub after_closing_rules : NodeState → NodeState
after_closing_rules s =
    after_single_if_drained (after_advance_starter
    (after_start_all (after_advance_starter (after_advance_shares s (own_txs s)))))
