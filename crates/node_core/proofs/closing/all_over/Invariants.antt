use Rattle.std.proofs.Common.{drop, ◌≡◌}
use Rattle.act_rows.specs.Closing.{all_txs_over}
use Rattle.node_core.proofs.closing.all_over.Given as goal

abbrev pub invariant-loop-entry : goal.invariant-loop-entry
invariant-loop-entry l = all_txs_over (drop l.entry-index l.txs) ≡ all_txs_over l.txs
