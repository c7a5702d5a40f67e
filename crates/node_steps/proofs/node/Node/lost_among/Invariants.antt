use Rattle.std.proofs.Common.{drop, ◌++◌, ◌≡◌}
use Rattle.act_rows.specs.Steps.{lost_among}
use Rattle.node_steps.proofs.node.Node.lost_among.Given as goal

abbrev pub invariant-loop-node : goal.invariant-loop-node
invariant-loop-node l = l.lost ++ lost_among l.self (drop l.node-index l.nodes) ≡ lost_among l.self l.nodes
