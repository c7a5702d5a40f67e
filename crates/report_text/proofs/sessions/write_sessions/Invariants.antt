use Rattle.std.proofs.Common.{◌≡◌, ◌++◌, drop}
use Rattle.report_text.specs.Sessions.{sessions_lines}
use Rattle.report_text.proofs.sessions.write_sessions.Given as goal

abbrev pub invariant-loop-place : goal.invariant-loop-place
invariant-loop-place l =
    l.out ++ sessions_lines l.scenario l.given l.shown.standings l.place (drop l.place l.scenario.sessions)
    ≡ l.fn.out ++ sessions_lines l.scenario l.given l.shown.standings 0 l.scenario.sessions
