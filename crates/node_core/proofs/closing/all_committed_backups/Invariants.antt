use Rattle.std.proofs.Common.{drop, ◌≡◌}
use Rattle.act_rows.specs.Closing.{all_committed_backups}
use Rattle.node_core.proofs.closing.all_committed_backups.Given as goal

abbrev pub invariant-loop-backup : goal.invariant-loop-backup
invariant-loop-backup l = all_committed_backups (drop l.backup-index l.backups) ≡ all_committed_backups l.backups
