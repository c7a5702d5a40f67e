use Rattle.std.proofs.Common.{drop, ◌≡◌}
use Rattle.part_model.specs.Verdicts.{all_shares_committed}
use Rattle.tx_recovery.proofs.verdicts.all_committed.Given as goal

abbrev pub invariant-loop-state : goal.invariant-loop-state
invariant-loop-state l = all_shares_committed (drop l.state-index l.held) ≡ all_shares_committed l.held
