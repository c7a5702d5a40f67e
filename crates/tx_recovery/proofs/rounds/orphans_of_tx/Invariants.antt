use Rattle.std.proofs.Common.{drop, ◌++◌, ◌≡◌}
use Rattle.act_rows.specs.Recovery.{orphans_of_tx}
use Rattle.tx_recovery.proofs.rounds.orphans_of_tx.Given as goal

abbrev pub invariant-loop-orphan : goal.invariant-loop-orphan
invariant-loop-orphan l = l.orphans ++ orphans_of_tx l.tx (drop l.orphan-index l.list) ≡ orphans_of_tx l.tx l.list
