use Rattle.std.proofs.Common.{drop, ◌++◌, ◌≡◌}
use Rattle.act_rows.specs.Recovery.{orphans_among}
use Rattle.tx_recovery.proofs.orphans.orphans_among.Given as goal

abbrev pub invariant-loop-tx : goal.invariant-loop-tx
invariant-loop-tx l = l.orphans ++ orphans_among l.node l.standing (drop l.tx-index l.txs) ≡ orphans_among l.node l.standing
    l.txs
