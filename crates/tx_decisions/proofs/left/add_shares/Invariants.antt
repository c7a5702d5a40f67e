use Rattle.std.proofs.Common.{drop, ◌≡◌}
use Rattle.act_rows.specs.Decisions.{with_shares}
use Rattle.tx_decisions.proofs.left.add_shares.Given as goal

abbrev pub invariant-loop-share : goal.invariant-loop-share
invariant-loop-share l = with_shares l.set (drop l.share-index l.shares) ≡ with_shares l.initial.set l.shares
