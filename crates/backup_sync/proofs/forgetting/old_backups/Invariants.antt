use Rattle.std.proofs.Common.{drop, ◌++◌, ◌≡◌}
use Rattle.act_rows.specs.Primary.{is_forgettable}
use Rattle.part_model.specs.Tables.{keys_where}
use Rattle.backup_sync.proofs.forgetting.old_backups.Given as goal

abbrev pub invariant-loop-name : goal.invariant-loop-name
invariant-loop-name l = l.old ++ keys_where (λ e. is_forgettable l.tx e.0.tx e.1.state) (drop l.name-index l.backups)
    ≡ keys_where (λ e. is_forgettable l.tx e.0.tx e.1.state) l.backups
