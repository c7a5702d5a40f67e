use Rattle.std.proofs.Common.{◌≡◌, ◌++◌, drop}
use Rattle.report_text.specs.Histories.{history_lines}
use Rattle.report_text.proofs.history.write_history_lines.Given as goal

abbrev pub invariant-loop-place : goal.invariant-loop-place
invariant-loop-place l =
    l.out ++ history_lines l.scenario l.place (drop l.place l.commits)
    ≡ l.fn.out ++ history_lines l.scenario 0 l.commits
