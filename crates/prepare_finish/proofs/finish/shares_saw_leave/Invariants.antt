use Rattle.std.proofs.Common.{drop, ◌≡◌}
use Rattle.act_rows.specs.Primary.{after_left_at_shares}
use Rattle.prepare_finish.proofs.finish.shares_saw_leave.Given as goal

abbrev pub invariant-loop-tx : goal.invariant-loop-tx
invariant-loop-tx l = after_left_at_shares l.node l.left (drop l.tx-index l.txs) ≡ after_left_at_shares l.initial.node l.left
    l.txs
