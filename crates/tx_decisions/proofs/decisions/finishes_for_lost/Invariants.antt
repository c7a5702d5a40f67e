use Rattle.std.proofs.Common.{drop, ◌++◌, ◌≡◌}
use Rattle.act_rows.specs.Decisions.{finishes_for_lost}
use Rattle.tx_decisions.proofs.decisions.finishes_for_lost.Given as goal

abbrev pub invariant-loop-primary : goal.invariant-loop-primary
invariant-loop-primary l = l.outs ++ finishes_for_lost l.node l.tx l.commit l.shares (drop l.primary-index l.primaries)
    ≡ finishes_for_lost l.node l.tx l.commit l.shares l.primaries
