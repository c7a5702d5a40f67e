use Rattle.std.proofs.Common.{drop, ◌++◌, ◌≡◌}
use Rattle.act_rows.specs.Accesses.{prepare_outs}
use Rattle.near_side.proofs.preparing.prepare_outs.Given as goal

abbrev pub invariant-loop-primary : goal.invariant-loop-primary
invariant-loop-primary l = l.outs ++ prepare_outs l.node l.tx l.top l.entry l.shares (drop l.primary-index l.primaries)
    ≡ prepare_outs l.node l.tx l.top l.entry l.shares l.primaries
