use Rattle.std.proofs.Common.{drop, ◌++◌, ◌≡◌}
use Rattle.summary_text.specs.Summary as summaries
use Rattle.summary_text.proofs.made.sessions_told.Given as goal

abbrev pub invariant-loop-place : goal.invariant-loop-place
invariant-loop-place l = l.found ++ summaries.sessions_told l.given l.place (drop l.place l.sessions)
    ≡ summaries.sessions_told l.given 0 l.sessions
