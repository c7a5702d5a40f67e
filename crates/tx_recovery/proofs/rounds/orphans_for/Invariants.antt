use Rattle.std.proofs.Common.{drop, ◌++◌, ◌≡◌}
use Rattle.act_rows.specs.Recovery.{orphans_for}
use Rattle.tx_recovery.proofs.rounds.orphans_for.Given as goal

abbrev pub invariant-loop-report : goal.invariant-loop-report
invariant-loop-report l = l.orphans ++ orphans_for l.tx (drop l.report-index l.reports) ≡ orphans_for l.tx l.reports
