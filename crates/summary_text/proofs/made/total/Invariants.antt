use Rattle.std.proofs.Common.{drop, ◌≡◌}
use Rattle.summary_text.specs.Summary as summaries
use Rattle.summary_text.proofs.made.total.Given as goal

abbrev pub invariant-loop-entry : goal.invariant-loop-entry
invariant-loop-entry l = summaries.total_from l.sum (drop l.entry-index l.entries) ≡ summaries.total l.entries
