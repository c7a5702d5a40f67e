use Rattle.std.proofs.Common.{drop, ◌++◌, ◌≡◌}
use Rattle.act_rows.specs.Exchange.{is_kept_commit}
use Rattle.part_model.specs.Tables.{keys_where}
use Rattle.partition_exchange.proofs.installing.committed_backups.Given as goal

abbrev pub invariant-loop-name : goal.invariant-loop-name
invariant-loop-name l = l.names ++ keys_where (λ e. is_kept_commit e.1.state) (drop l.name-index l.backups) ≡ keys_where
    (λ e. is_kept_commit e.1.state) l.backups
