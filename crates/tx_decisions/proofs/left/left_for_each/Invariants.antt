use Rattle.std.proofs.Common.{drop, ◌≡◌}
use Rattle.act_rows.specs.Decisions.{after_left_for_each}
use Rattle.tx_decisions.proofs.left.left_for_each.Given as goal

abbrev pub invariant-loop-tx : goal.invariant-loop-tx
invariant-loop-tx l = after_left_for_each l.node l.lost (drop l.tx-index l.txs) ≡ after_left_for_each l.initial.node l.lost
    l.txs
