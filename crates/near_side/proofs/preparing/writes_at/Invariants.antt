use Rattle.std.proofs.Common.{drop, ◌++◌, ◌≡◌}
use Rattle.act_rows.specs.Accesses.{writes_at}
use Rattle.near_side.proofs.preparing.writes_at.Given as goal

abbrev pub invariant-loop-write : goal.invariant-loop-write
invariant-loop-write l = l.writes ++ writes_at l.node l.primary (drop l.write-index l.all) ≡ writes_at l.node l.primary l.all
