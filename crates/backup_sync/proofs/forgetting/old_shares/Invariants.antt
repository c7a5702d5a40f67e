use Rattle.std.proofs.Common.{drop, ◌++◌, ◌≡◌}
use Rattle.act_rows.specs.Primary.{is_forgettable}
use Rattle.part_model.specs.Tables.{keys_where}
use Rattle.backup_sync.proofs.forgetting.old_shares.Given as goal

abbrev pub invariant-loop-other : goal.invariant-loop-other
invariant-loop-other l = l.old ++ keys_where (λ e. is_forgettable l.tx e.0 e.1.state) (drop l.other-index l.shares)
    ≡ keys_where (λ e. is_forgettable l.tx e.0 e.1.state) l.shares
