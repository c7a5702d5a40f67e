use Rattle.std.proofs.Common.{drop, ◌++◌, ◌≡◌}
use Rattle.act_rows.specs.Decisions.{orphaned_shares}
use Rattle.tx_decisions.proofs.decisions.orphaned.Given as goal

abbrev pub invariant-loop-share : goal.invariant-loop-share
invariant-loop-share l = l.left ++ orphaned_shares l.node (drop l.share-index l.shares) ≡ orphaned_shares l.node l.shares
