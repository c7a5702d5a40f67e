use Rattle.std.proofs.Common.{drop, ◌++◌, ◌≡◌}
use Rattle.act_rows.specs.Recovery.{backup_txs}
use Rattle.tx_recovery.proofs.orphans.backup_txs.Given as goal

abbrev pub invariant-loop-name : goal.invariant-loop-name
invariant-loop-name l = l.txs ++ backup_txs (drop l.name-index l.name-items) ≡ backup_txs l.name-items
