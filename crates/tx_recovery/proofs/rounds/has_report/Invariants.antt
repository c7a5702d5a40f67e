use Rattle.std.proofs.Common.{drop, ◌≡◌}
use Rattle.act_rows.specs.Recovery.{has_report}
use Rattle.tx_recovery.proofs.rounds.has_report.Given as goal

abbrev pub invariant-loop-report : goal.invariant-loop-report
invariant-loop-report l = has_report (drop l.report-index l.reports) l.node ≡ has_report l.reports l.node
