use Rattle.std.proofs.Common.{drop, ◌++◌, ◌≡◌}
use Rattle.summary_text.specs.Summary as summaries
use Rattle.summary_text.proofs.made.commits_told.Given as goal

abbrev pub invariant-loop-place : goal.invariant-loop-place
invariant-loop-place l = l.found ++ summaries.commits_told (drop l.place l.script) (drop l.place l.tolds)
    ≡ summaries.commits_told l.script l.tolds
