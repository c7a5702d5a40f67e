use Rattle.std.proofs.Common.{drop, ◌++◌, ◌≡◌}
use Rattle.act_rows.specs.Decisions.{live_backups}
use Rattle.tx_decisions.proofs.left.live_backups.Given as goal

abbrev pub invariant-loop-share : goal.invariant-loop-share
invariant-loop-share l = l.live ++ live_backups l.node (drop l.share-index l.backups) ≡ live_backups l.node l.backups
