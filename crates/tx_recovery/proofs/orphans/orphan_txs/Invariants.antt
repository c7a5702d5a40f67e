use Rattle.std.proofs.Common.{drop, ◌++◌, ◌≡◌}
use Rattle.act_rows.specs.Recovery.{lost_starters}
use Rattle.tx_recovery.proofs.orphans.orphan_txs.Given as goal

abbrev pub invariant-loop-tx : goal.invariant-loop-tx
invariant-loop-tx l = l.txs ++ lost_starters l.node (drop l.tx-index l.tx-items) ≡ lost_starters l.node l.tx-items
