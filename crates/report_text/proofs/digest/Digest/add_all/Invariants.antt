use Rattle.std.proofs.Common.{◌≡◌, drop}
use Rattle.report_text.specs.Digests.{with_recs}
use Rattle.report_text.proofs.digest.Digest.add_all.Given as goal

abbrev pub invariant-loop-rec : goal.invariant-loop-rec
invariant-loop-rec l = with_recs l.self (drop l.rec-index l.recs) ≡ with_recs l.fn.self l.recs
