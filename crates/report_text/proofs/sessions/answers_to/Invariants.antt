use Rattle.std.proofs.Common.{◌≡◌, ◌++◌, drop}
use Rattle.report_text.specs.Sessions.{answers_given_to}
use Rattle.report_text.proofs.sessions.answers_to.Given as goal

abbrev pub invariant-loop-given : goal.invariant-loop-given
invariant-loop-given l = l.answers ++ answers_given_to l.number (drop l.given-index l.all) ≡ answers_given_to l.number l.all
