use Rattle.std.proofs.Common.{drop, ◌≡◌}
use Rattle.part_model.specs.Verdicts.{is_committed_share}
use Rattle.tx_recovery.proofs.verdicts.is_committed_in.Given as goal

abbrev pub invariant-loop-state : goal.invariant-loop-state
invariant-loop-state l = is_committed_share (drop l.state-index l.held) ≡ is_committed_share l.held
