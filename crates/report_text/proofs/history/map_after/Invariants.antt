use Rattle.std.proofs.Common.{◌≡◌, [], drop}
use Rattle.tx_model.specs.History.{map_after_commits}
use Rattle.report_text.proofs.history.map_after.Given as goal

abbrev pub invariant-loop-entry : goal.invariant-loop-entry
invariant-loop-entry l = map_after_commits l.map (drop l.entry-index l.commits) ≡ map_after_commits [] l.commits
