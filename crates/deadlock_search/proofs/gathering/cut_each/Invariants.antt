use Rattle.std.proofs.Common.{drop, ◌≡◌}
use Rattle.act_rows.specs.Searches.{after_left_at_each_search}
use Rattle.deadlock_search.proofs.gathering.cut_each.Given as goal

abbrev pub invariant-loop-tx : goal.invariant-loop-tx
invariant-loop-tx l = after_left_at_each_search l.node l.lost (drop l.tx-index l.txs)
    ≡ after_left_at_each_search l.initial.node l.lost l.txs
