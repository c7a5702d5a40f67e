use Rattle.std.proofs.Common.{drop, ◌++◌, ◌≡◌}
use Rattle.part_model.specs.Directory.{without_node}
use Rattle.discovery_order.proofs.topology.without_node.Given as goal

abbrev pub invariant-loop-member : goal.invariant-loop-member
invariant-loop-member l = l.others ++ without_node l.node (drop l.member-index l.members) ≡ without_node l.node l.members
