use Rattle.std.proofs.Common.{drop, ◌++◌, ◌≡◌}
use Rattle.summary_text.specs.Json as json
use Rattle.summary_text.proofs.json.present.Given as goal

abbrev pub invariant-loop-entry : goal.invariant-loop-entry
invariant-loop-entry l = l.changes ++ json.present_pairs (drop l.entry-index l.entries) ≡ json.present_pairs l.entries
