use Rattle.std.proofs.Common.{drop, ◌++◌, ◌≡◌}
use Rattle.act_rows.specs.Primary.{near_outs}
use Rattle.prepare_finish.proofs.finish.near_outs.Given as goal

abbrev pub invariant-loop-write : goal.invariant-loop-write
invariant-loop-write l = l.outs ++ near_outs l.node l.tx (drop l.write-index l.writes) ≡ near_outs l.node l.tx l.writes
