-- A backup's or mover's part in both phases.
use Rattle.std.specs.Prelude.{Bool, None, Option, Some, false, true}
use Rattle.act_rows.specs.Primary.{after_forget}
use Rattle.act_rows.specs.Steps.{backup_cmp, backup_name, backup_of, with_backup, with_out}
use Rattle.act_rows.specs.Stores.{after_apply_each}
use Rattle.ignite_types.specs.declared.list.List.{List}
use Rattle.ignite_types.specs.declared.message.Stored.{Stored}
use Rattle.ignite_types.specs.declared.names.NodeId.{NodeId}
use Rattle.ignite_types.specs.declared.names.TopVer.{TopVer}
use Rattle.ignite_types.specs.declared.names.TxId.{TxId}
use Rattle.ignite_types.specs.declared.placement.Share.{Share}
use Rattle.ignite_types.specs.declared.placement.ShareState.{ShareState}
use Rattle.ignite_types.specs.declared.placement.ShareState.TheVariants.{Committed, Prepared}
use Rattle.node_state.specs.Node.{NodeState}
use Rattle.node_state.specs.declared.primary.BackupShare.{BackupShare}
use Rattle.ordered_table.specs.Entries.{without}
use Rattle.ignite_types.specs.declared.message.Message.TheVariants as msg

-- BackupPrepare: the share is Prepared with these writes
abbrev pub after_backup_prepare : NodeState → NodeId → TxId → TopVer → List Share → NodeId → List Stored → NodeState
after_backup_prepare s from tx top shares primary writes = with_out
    (with_backup (after_forget s tx) tx primary (record { top = top; shares = shares; writes = writes; state = Prepared }))
    from (msg.BackupPrepared tx)

-- the writes are done, and the share is kept as Committed
abbrev pub after_commit_backup : NodeState → TxId → NodeId → BackupShare → NodeState
after_commit_backup s tx primary h =
    with_backup (after_apply_each s tx h.top primary h.writes) tx primary (record h { state = Committed })

abbrev pub without_backup : NodeState → TxId → NodeId → NodeState
without_backup s tx primary = record s { backups = without backup_cmp s.backups (backup_name tx primary) }

abbrev pub after_backup_finish_in : NodeState → TxId → NodeId → Bool → BackupShare → ShareState → NodeState
after_backup_finish_in s tx primary true h Prepared = after_commit_backup s tx primary h
after_backup_finish_in s tx primary true h _ = s
after_backup_finish_in s tx primary false h _ = without_backup s tx primary

abbrev pub after_backup_finish_of : NodeState → TxId → NodeId → Bool → Option BackupShare → NodeState
after_backup_finish_of s tx primary commit None = s
after_backup_finish_of s tx primary commit (Some h) = after_backup_finish_in s tx primary commit h h.state

-- BackupFinish: a Prepared share is committed or dropped; always answered
abbrev pub after_backup_finish : NodeState → NodeId → TxId → NodeId → Bool → NodeState
after_backup_finish s from tx primary commit =
    with_out (after_backup_finish_of s tx primary commit (backup_of s tx primary)) from (msg.BackupFinished tx primary)
