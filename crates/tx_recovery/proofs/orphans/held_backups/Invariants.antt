use Rattle.std.proofs.Common.{drop, ◌≡◌}
use Rattle.act_rows.specs.Recovery.{held_backups, held_backups_from}
use Rattle.tx_recovery.proofs.orphans.held_backups.Given as goal

abbrev pub invariant-loop-name : goal.invariant-loop-name
invariant-loop-name l = held_backups_from l.holder l.tx l.held (drop l.name-index l.name-items)
    ≡ held_backups l.holder l.name-items l.tx
