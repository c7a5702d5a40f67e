use Rattle.std.proofs.Common.{◌≡◌, ◌++◌, drop, filter}
use Rattle.part_model.specs.NextMap.{is_member}
use Rattle.part_map.proofs.held.push_members.Given as goal

abbrev pub invariant-loop-node : goal.invariant-loop-node
invariant-loop-node l = l.holders ++ filter (is_member l.members) (drop l.node-index l.nodes) ≡ l.fn.holders ++ filter
    (is_member l.members) l.nodes
