use Rattle.std.proofs.Common.{drop, ◌≡◌}
use Rattle.audit_core.specs.Verdict.{changes_in}
use Rattle.audit_core.proofs.tables.PlainMap.change_all.Given as goal

abbrev pub invariant-loop-change : goal.invariant-loop-change
invariant-loop-change l = changes_in l.self (drop l.change-index l.changes) ≡ changes_in l.fn.self l.changes
