use Rattle.std.proofs.Common.{drop, ◌++◌, ◌≡◌}
use Rattle.part_model.specs.NextMap.{servers}
use Rattle.node_core.proofs.opening.servers.Given as goal

abbrev pub invariant-loop-member : goal.invariant-loop-member
invariant-loop-member l = l.nodes ++ servers (drop l.member-index l.members) ≡ servers l.members
