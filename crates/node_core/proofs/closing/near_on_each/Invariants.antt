use Rattle.std.proofs.Common.{drop, ◌≡◌}
use Rattle.act_rows.specs.Closing.{after_advance_each_tx}
use Rattle.node_core.proofs.closing.near_on_each.Given as goal

abbrev pub invariant-loop-tx : goal.invariant-loop-tx
invariant-loop-tx l = after_advance_each_tx l.node (drop l.tx-index l.txs) ≡ after_advance_each_tx l.initial.node l.txs
