use Rattle.std.proofs.Common.{drop, ◌++◌, ◌≡◌}
use Rattle.act_rows.specs.Exchange.{demand_outs}
use Rattle.rebalance.proofs.demanding.demand_outs.Given as goal

abbrev pub invariant-loop-row : goal.invariant-loop-row
invariant-loop-row l = l.outs ++ demand_outs l.me l.top l.part (drop l.row-index l.rows) ≡ demand_outs l.me l.top 0 l.rows
