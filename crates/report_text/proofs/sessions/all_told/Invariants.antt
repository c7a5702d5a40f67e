use Rattle.std.proofs.Common.{◌≡◌, ◌++◌, drop}
use Rattle.part_model.specs.Script.{no_progress}
use Rattle.report_text.specs.Sessions.{all_told}
use Rattle.report_text.proofs.sessions.all_told.Given as goal

abbrev pub invariant-loop-answer : goal.invariant-loop-answer
invariant-loop-answer l =
    l.all ++ all_told l.script l.progress (drop l.answer-index l.answers)
    ≡ all_told l.script no_progress l.answers
