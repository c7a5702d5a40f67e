use Rattle.std.proofs.Common.{drop, ◌≡◌}
use Rattle.part_model.specs.Verdicts.{members_ready}
use Rattle.tx_recovery.proofs.verdicts.members_ready.Given as goal

abbrev pub invariant-loop-share : goal.invariant-loop-share
invariant-loop-share l = members_ready l.held l.members (drop l.share-index l.shares) ≡ members_ready l.held l.members l.shares
