use Rattle.std.proofs.Common.{[], drop, ◌≡◌}
use Rattle.part_model.specs.Directory.{node_set}
use Rattle.discovery_order.proofs.topology.node_set.Given as goal

abbrev pub invariant-loop-member : goal.invariant-loop-member
invariant-loop-member l = node_set l.nodes (drop l.member-index l.members) ≡ node_set [] l.members
