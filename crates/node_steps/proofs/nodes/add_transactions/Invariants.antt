use Rattle.std.proofs.Common.{drop, ◌≡◌}
use Rattle.part_model.specs.Queues.{with_members}
use Rattle.node_steps.proofs.nodes.add_transactions.Given as goal

abbrev pub invariant-loop-tx : goal.invariant-loop-tx
invariant-loop-tx l = with_members l.set (drop l.tx-index l.txs) ≡ with_members l.initial.set l.txs
