use Rattle.std.proofs.Common.{drop, [], ◌≡◌}
use Rattle.audit_core.specs.Shape.{ascend_from}
use Rattle.audit_core.proofs.shape.ascend.Given as goal

abbrev pub invariant-loop-change : goal.invariant-loop-change
invariant-loop-change l = ascend_from l.last (drop l.change-index l.changes) ≡ ascend_from [] l.changes
