use Rattle.std.proofs.Common.{◌≡◌, ◌++◌, drop}
use Rattle.report_text.specs.Sessions.{session_told_lines}
use Rattle.report_text.proofs.sessions.write_told_lines.Given as goal

abbrev pub invariant-loop-place : goal.invariant-loop-place
invariant-loop-place l =
    l.out ++ session_told_lines l.scenario l.session.commands l.place (drop l.place l.all)
    ≡ l.fn.out ++ session_told_lines l.scenario l.session.commands 0 l.all
