use Rattle.std.proofs.Common.{drop, ◌≡◌}
use Rattle.part_model.specs.Directory.{one_remains}
use Rattle.discovery_order.proofs.losses.one_remains.Given as goal

abbrev pub invariant-loop-owner : goal.invariant-loop-owner
invariant-loop-owner l = one_remains l.members l.lost (drop l.owner-index l.owners) ≡ one_remains l.members l.lost l.owners
