use Rattle.std.proofs.Common.{not, drop, filter, ◌++◌, ◌≡◌}
use Rattle.ignite_types.specs.Names.{same_node}
use Rattle.prepare_finish.proofs.finish.waits_without.Given as goal

abbrev pub invariant-loop-wait : goal.invariant-loop-wait
invariant-loop-wait l = l.others ++ filter (λ w. not (same_node w.node l.node)) (drop l.wait-index l.waits)
    ≡ filter (λ w. not (same_node w.node l.node)) l.waits
