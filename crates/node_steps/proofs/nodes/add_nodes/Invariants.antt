use Rattle.std.proofs.Common.{drop, ◌≡◌}
use Rattle.act_rows.specs.Recovery.{with_nodes}
use Rattle.node_steps.proofs.nodes.add_nodes.Given as goal

abbrev pub invariant-loop-node : goal.invariant-loop-node
invariant-loop-node l = with_nodes l.set (drop l.node-index l.nodes) ≡ with_nodes l.initial.set l.nodes
