use Rattle.std.proofs.Common.{drop, ◌≡◌}
use Rattle.act_rows.specs.Recovery.{with_finish_waits}
use Rattle.tx_recovery.proofs.waits.add_finishes.Given as goal

abbrev pub invariant-loop-node : goal.invariant-loop-node
invariant-loop-node l = with_finish_waits l.set l.tx (drop l.node-index l.nodes) ≡ with_finish_waits l.initial.set l.tx l.nodes
