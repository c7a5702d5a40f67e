use Rattle.std.proofs.Common.{drop, ◌≡◌}
use Rattle.act_rows.specs.Recovery.{all_reported}
use Rattle.tx_recovery.proofs.rounds.all_reported.Given as goal

abbrev pub invariant-loop-member : goal.invariant-loop-member
invariant-loop-member l = all_reported (drop l.member-index l.members) l.reports ≡ all_reported l.members l.reports
