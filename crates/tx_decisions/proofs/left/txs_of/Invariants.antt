use Rattle.std.proofs.Common.{drop, ◌++◌, ◌≡◌}
use Rattle.part_model.specs.Tables.{keys_in}
use Rattle.tx_decisions.proofs.left.txs_of.Given as goal

abbrev pub invariant-loop-tx : goal.invariant-loop-tx
invariant-loop-tx l = l.txs ++ keys_in (drop l.tx-index l.tx-items) ≡ keys_in l.tx-items
