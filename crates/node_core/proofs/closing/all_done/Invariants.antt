use Rattle.std.proofs.Common.{drop, ◌≡◌}
use Rattle.act_rows.specs.Closing.{all_shares_done}
use Rattle.node_core.proofs.closing.all_done.Given as goal

abbrev pub invariant-loop-share : goal.invariant-loop-share
invariant-loop-share l = all_shares_done (drop l.share-index l.shares) ≡ all_shares_done l.shares
