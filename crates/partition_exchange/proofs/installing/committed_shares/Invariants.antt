use Rattle.std.proofs.Common.{drop, ◌++◌, ◌≡◌}
use Rattle.act_rows.specs.Exchange.{is_kept_commit}
use Rattle.part_model.specs.Tables.{keys_where}
use Rattle.partition_exchange.proofs.installing.committed_shares.Given as goal

abbrev pub invariant-loop-tx : goal.invariant-loop-tx
invariant-loop-tx l = l.txs ++ keys_where (λ e. is_kept_commit e.1.state) (drop l.tx-index l.shares) ≡ keys_where
    (λ e. is_kept_commit e.1.state) l.shares
