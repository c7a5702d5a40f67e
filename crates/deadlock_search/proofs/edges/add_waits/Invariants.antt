use Rattle.std.proofs.Common.{drop, ◌≡◌}
use Rattle.part_model.specs.Cycles.{with_waits}
use Rattle.deadlock_search.proofs.edges.add_waits.Given as goal

abbrev pub invariant-loop-wait : goal.invariant-loop-wait
invariant-loop-wait l = with_waits l.edges l.node l.act (drop l.wait-index l.waits) ≡ with_waits l.initial.edges l.node l.act
    l.waits
