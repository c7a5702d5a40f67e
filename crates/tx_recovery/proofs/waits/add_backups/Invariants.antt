use Rattle.std.proofs.Common.{drop, ◌≡◌}
use Rattle.act_rows.specs.Recovery.{with_backup_waits}
use Rattle.tx_recovery.proofs.waits.add_backups.Given as goal

abbrev pub invariant-loop-share : goal.invariant-loop-share
invariant-loop-share l = with_backup_waits l.set l.tx (drop l.share-index l.shares) ≡ with_backup_waits l.initial.set l.tx
    l.shares
