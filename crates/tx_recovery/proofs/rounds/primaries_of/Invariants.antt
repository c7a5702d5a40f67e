use Rattle.std.proofs.Common.{drop, ◌≡◌}
use Rattle.act_rows.specs.Recovery.{primaries_among, primaries_of}
use Rattle.tx_recovery.proofs.rounds.primaries_of.Given as goal

abbrev pub invariant-loop-share : goal.invariant-loop-share
invariant-loop-share l = primaries_among l.nodes (drop l.share-index l.shares) ≡ primaries_of l.shares
