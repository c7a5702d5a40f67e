use Rattle.std.proofs.Common.{drop, ◌≡◌}
use Rattle.part_model.specs.Verdicts.{shares_named}
use Rattle.tx_recovery.proofs.verdicts.shares_named.Given as goal

abbrev pub invariant-loop-orphan : goal.invariant-loop-orphan
invariant-loop-orphan l = shares_named (drop l.orphan-index l.orphans) ≡ shares_named l.orphans
