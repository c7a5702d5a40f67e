use Rattle.std.proofs.Common.{◌≡◌, ◌++◌, drop}
use Rattle.report_text.specs.Endings.{stalled_lines}
use Rattle.report_text.proofs.endings.write_stalled_lines.Given as goal

abbrev pub invariant-loop-place : goal.invariant-loop-place
invariant-loop-place l =
    l.out ++ stalled_lines l.scenario l.shown.standings l.place (drop l.place l.scenario.sessions)
    ≡ l.fn.out ++ stalled_lines l.scenario l.shown.standings 0 l.scenario.sessions
