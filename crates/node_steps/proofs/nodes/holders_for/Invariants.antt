use Rattle.std.proofs.Common.{drop, ◌++◌, ◌≡◌}
use Rattle.act_rows.specs.Steps.{holders_for}
use Rattle.node_steps.proofs.nodes.holders_for.Given as goal

abbrev pub invariant-loop-share : goal.invariant-loop-share
invariant-loop-share l = l.holders ++ holders_for (drop l.share-index l.shares) l.primary ≡ holders_for l.shares l.primary
