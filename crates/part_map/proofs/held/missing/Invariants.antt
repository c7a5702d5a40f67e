use Rattle.std.proofs.Common.{◌≡◌, ◌++◌, drop}
use Rattle.part_model.specs.NextMap.{nodes_missing}
use Rattle.part_map.proofs.held.missing.Given as goal

abbrev pub invariant-loop-node : goal.invariant-loop-node
invariant-loop-node l = l.nodes ++ nodes_missing (drop l.node-index l.wanted) l.holders ≡ nodes_missing l.wanted l.holders
