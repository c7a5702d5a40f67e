use Rattle.std.proofs.Common.{drop, ◌++◌, ◌≡◌}
use Rattle.act_rows.specs.Primary.{writes_held_by}
use Rattle.prepare_finish.proofs.primary.writes_held.Given as goal

abbrev pub invariant-loop-write : goal.invariant-loop-write
invariant-loop-write l = l.held ++ writes_held_by l.node l.holder (drop l.write-index l.writes)
    ≡ writes_held_by l.node l.holder l.writes
