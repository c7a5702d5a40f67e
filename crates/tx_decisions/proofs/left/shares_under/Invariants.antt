use Rattle.std.proofs.Common.{drop, ◌++◌, ◌≡◌}
use Rattle.act_rows.specs.Decisions.{shares_under}
use Rattle.tx_decisions.proofs.left.shares_under.Given as goal

abbrev pub invariant-loop-share : goal.invariant-loop-share
invariant-loop-share l = l.under ++ shares_under (drop l.share-index l.shares) l.primary ≡ shares_under l.shares l.primary
