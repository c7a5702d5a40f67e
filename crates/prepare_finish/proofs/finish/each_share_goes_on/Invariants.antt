use Rattle.std.proofs.Common.{drop, ◌≡◌}
use Rattle.act_rows.specs.Primary.{after_advance_shares}
use Rattle.prepare_finish.proofs.finish.each_share_goes_on.Given as goal

abbrev pub invariant-loop-tx : goal.invariant-loop-tx
invariant-loop-tx l = after_advance_shares l.node (drop l.tx-index l.txs) ≡ after_advance_shares l.initial.node l.txs
