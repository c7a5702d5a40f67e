use Rattle.std.proofs.Common.{drop, ◌≡◌}
use Rattle.part_model.specs.Directory.{first_bare}
use Rattle.discovery_order.proofs.losses.first_bare.Given as goal

abbrev pub invariant-loop-row : goal.invariant-loop-row
invariant-loop-row l = first_bare l.members l.lost l.part (drop l.row-index l.rows) ≡ first_bare l.members l.lost 0 l.rows
