use Rattle.std.proofs.Common.{◌≡◌, ◌++◌, drop}
use Rattle.report_text.specs.Histories.{more_changes}
use Rattle.report_text.proofs.history.write_more.Given as goal

abbrev pub invariant-loop-change : goal.invariant-loop-change
invariant-loop-change l =
    l.out ++ more_changes l.scenario (drop l.change-index l.changes)
    ≡ l.fn.out ++ more_changes l.scenario l.changes
