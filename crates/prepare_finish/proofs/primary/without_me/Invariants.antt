use Rattle.std.proofs.Common.{not, drop, filter, ◌++◌, ◌≡◌}
use Rattle.ignite_types.specs.Names.{same_node}
use Rattle.prepare_finish.proofs.primary.without_me.Given as goal

abbrev pub invariant-loop-other : goal.invariant-loop-other
invariant-loop-other l = l.others ++ filter (λ n. not (same_node n l.node.me)) (drop l.other-index l.nodes)
    ≡ filter (λ n. not (same_node n l.node.me)) l.nodes
