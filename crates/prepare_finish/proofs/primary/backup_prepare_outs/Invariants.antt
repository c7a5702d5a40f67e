use Rattle.std.proofs.Common.{drop, ◌++◌, ◌≡◌}
use Rattle.act_rows.specs.Primary.{backup_prepare_outs}
use Rattle.prepare_finish.proofs.primary.backup_prepare_outs.Given as goal

abbrev pub invariant-loop-holder : goal.invariant-loop-holder
invariant-loop-holder l = l.outs ++ backup_prepare_outs l.node l.tx l.top l.shares l.writes (drop l.holder-index l.holders)
    ≡ backup_prepare_outs l.node l.tx l.top l.shares l.writes l.holders
