use Rattle.std.proofs.Common.{drop, ◌++◌, ◌≡◌}
use Rattle.act_rows.specs.Steps.{outs_to}
use Rattle.node_steps.proofs.outs.outs_to.Given as goal

abbrev pub invariant-loop-node : goal.invariant-loop-node
invariant-loop-node l = l.outs ++ outs_to (drop l.node-index l.nodes) l.message ≡ outs_to l.nodes l.message
