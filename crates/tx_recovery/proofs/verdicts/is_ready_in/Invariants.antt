use Rattle.std.proofs.Common.{drop, ◌≡◌}
use Rattle.part_model.specs.Verdicts.{is_ready_in}
use Rattle.tx_recovery.proofs.verdicts.is_ready_in.Given as goal

abbrev pub invariant-loop-other : goal.invariant-loop-other
invariant-loop-other l = is_ready_in (drop l.other-index l.held) l.share ≡ is_ready_in l.held l.share
