use Rattle.std.proofs.Common.{drop, ◌≡◌}
use Rattle.audit_core.specs.Verdict.{new_ledger, verdict_from}
use Rattle.audit_core.proofs.verdict.verdict_on.Given as goal

abbrev pub invariant-loop-place : goal.invariant-loop-place
invariant-loop-place l = verdict_from l.place l.ledger (drop l.place l.history.entries) l.history.map
    ≡ verdict_from 0 new_ledger l.history.entries l.history.map
