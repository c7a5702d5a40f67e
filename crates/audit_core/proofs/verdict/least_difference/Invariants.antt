use Rattle.std.proofs.Common.{drop, ◌≡◌}
use Rattle.audit_core.specs.Verdict.{least_difference}
use Rattle.audit_core.proofs.verdict.least_difference.Given as goal

abbrev pub invariant-loop-place : goal.invariant-loop-place
invariant-loop-place l = least_difference (drop l.place l.entries) (drop l.place l.given) ≡ least_difference l.entries l.given
