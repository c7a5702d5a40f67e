use Rattle.std.proofs.Common.{drop, ◌++◌, ◌≡◌}
use Rattle.act_rows.specs.Recovery.{lockers}
use Rattle.tx_recovery.proofs.rounds.lockers.Given as goal

abbrev pub invariant-loop-report : goal.invariant-loop-report
invariant-loop-report l = l.nodes ++ lockers l.tx (drop l.report-index l.reports) ≡ lockers l.tx l.reports
