use Rattle.std.proofs.Common.{drop, ◌≡◌}
use Rattle.audit_core.specs.Verdict.{first_wrong_read}
use Rattle.audit_core.proofs.ledger.Ledger.bad_read.Given as goal

abbrev pub invariant-loop-read : goal.invariant-loop-read
invariant-loop-read l = first_wrong_read l.self.map (drop l.read-index l.reads) ≡ first_wrong_read l.self.map l.reads
