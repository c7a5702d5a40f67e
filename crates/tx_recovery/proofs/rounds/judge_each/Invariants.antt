use Rattle.std.proofs.Common.{drop, ◌≡◌}
use Rattle.act_rows.specs.Recovery.{after_judge_each}
use Rattle.tx_recovery.proofs.rounds.judge_each.Given as goal

abbrev pub invariant-loop-tx : goal.invariant-loop-tx
invariant-loop-tx l = after_judge_each l.node l.members l.reports (drop l.tx-index l.txs) ≡ after_judge_each l.initial.node
    l.members l.reports l.txs
