use Rattle.std.proofs.Common.{◌≡◌, ◌++◌, drop}
use Rattle.report_text.specs.Plans.{step_lines}
use Rattle.report_text.proofs.plans.write_step_lines.Given as goal

abbrev pub invariant-loop-place : goal.invariant-loop-place
invariant-loop-place l =
    l.out ++ step_lines l.scenario (drop l.place-index l.steps)
    ≡ l.fn.out ++ step_lines l.scenario l.steps
