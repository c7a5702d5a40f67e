use Rattle.std.proofs.Common.{drop, ◌≡◌}
use Rattle.act_rows.specs.Recovery.{backup_shares}
use Rattle.tx_recovery.proofs.orphans.backup_shares.Given as goal

abbrev pub invariant-loop-name : goal.invariant-loop-name
invariant-loop-name l = backup_shares (drop l.name-index l.name-items) l.tx ≡ backup_shares l.name-items l.tx
