use Rattle.std.proofs.Common.{drop, ◌≡◌}
use Rattle.part_model.specs.Directory.{node_set}
use Rattle.node_steps.proofs.nodes.add_members.Given as goal

abbrev pub invariant-loop-member : goal.invariant-loop-member
invariant-loop-member l = node_set l.set (drop l.member-index l.members) ≡ node_set l.initial.set l.members
