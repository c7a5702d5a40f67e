use Rattle.std.proofs.Common.{◌≡◌, ◌++◌, drop}
use Rattle.report_text.specs.Plans.{deadlocks_lines}
use Rattle.report_text.proofs.plans.write_deadlocks_lines.Given as goal

abbrev pub invariant-loop-deadlock : goal.invariant-loop-deadlock
invariant-loop-deadlock l =
    l.out ++ deadlocks_lines l.scenario (drop l.deadlock-index l.deadlocks)
    ≡ l.fn.out ++ deadlocks_lines l.scenario l.deadlocks
