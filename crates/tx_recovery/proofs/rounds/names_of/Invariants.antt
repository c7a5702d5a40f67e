use Rattle.std.proofs.Common.{drop, ◌≡◌}
use Rattle.act_rows.specs.Recovery.{names_from, names_of}
use Rattle.tx_recovery.proofs.rounds.names_of.Given as goal

abbrev pub invariant-loop-report : goal.invariant-loop-report
invariant-loop-report l = names_from l.names (drop l.report-index l.reports) ≡ names_of l.reports
