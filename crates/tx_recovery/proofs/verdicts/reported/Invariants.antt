use Rattle.std.proofs.Common.{drop, ◌++◌, ◌≡◌}
use Rattle.part_model.specs.Verdicts.{reported_shares}
use Rattle.tx_recovery.proofs.verdicts.reported.Given as goal

abbrev pub invariant-loop-orphan : goal.invariant-loop-orphan
invariant-loop-orphan l = l.held ++ reported_shares (drop l.orphan-index l.orphans) ≡ reported_shares l.orphans
