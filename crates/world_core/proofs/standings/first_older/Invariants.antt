use Rattle.std.proofs.Common.{◌≡◌, drop}
use Rattle.tx_model.specs.Outlooks.{first_older}
use Rattle.world_core.proofs.standings.first_older.Given as goal

abbrev pub invariant-loop-tx : goal.invariant-loop-tx
invariant-loop-tx l = first_older l.seen l.first (drop l.tx-index l.txs) ≡ first_older l.seen l.fn.best l.txs
