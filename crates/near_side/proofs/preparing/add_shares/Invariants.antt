use Rattle.std.proofs.Common.{drop, ◌≡◌}
use Rattle.act_rows.specs.Accesses.{shares_for}
use Rattle.near_side.proofs.preparing.add_shares.Given as goal

abbrev pub invariant-loop-node : goal.invariant-loop-node
invariant-loop-node l = shares_for l.shares (drop l.node-index l.holders) l.primary ≡ shares_for l.initial.shares l.holders
    l.primary
