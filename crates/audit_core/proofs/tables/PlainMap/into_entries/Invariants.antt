use Rattle.std.proofs.Common.{◌++◌, ◌≡◌}
use Rattle.audit_core.proofs.tables.PlainMap.into_entries.Given as goal

-- the entries so far, and then those that are left, are all
abbrev pub invariant-loop-entry : goal.invariant-loop-entry
invariant-loop-entry l = l.entries ++ l.entry-iterator ≡ l.initial.entry-iterator
