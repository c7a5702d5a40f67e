use Rattle.std.proofs.Common.{drop, ◌++◌, ◌≡◌}
use Rattle.act_rows.specs.Recovery.{reports_for}
use Rattle.tx_recovery.proofs.rounds.reports_for.Given as goal

abbrev pub invariant-loop-report : goal.invariant-loop-report
invariant-loop-report l = l.reports ++ reports_for (drop l.report-index l.report-items) l.place
    ≡ reports_for l.report-items l.place
