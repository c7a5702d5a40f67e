use Rattle.std.proofs.Common.{drop, ◌++◌, ◌≡◌}
use Rattle.act_rows.specs.Steps.{live_among}
use Rattle.node_steps.proofs.node.Node.live_among.Given as goal

abbrev pub invariant-loop-node : goal.invariant-loop-node
invariant-loop-node l = l.live ++ live_among l.self (drop l.node-index l.nodes) ≡ live_among l.self l.nodes
