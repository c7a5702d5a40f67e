use Rattle.std.proofs.Common.{drop, ◌*◌, ◌+◌, ◌≡◌}
use Rattle.part_model.specs.Cycles.{way_down, way_through_each}
use Rattle.deadlock_search.proofs.cycles.+descent.Given as goal

abbrev pub decreases-descend : goal.decreases-descend
decreases-descend l = 3 * l.depth

abbrev pub decreases-follow : goal.decreases-follow
decreases-follow l = 3 * l.depth + 1

abbrev pub decreases-try_edges : goal.decreases-try_edges
decreases-try_edges l = 3 * l.depth + 2

abbrev pub invariant-try_edges-loop-edge : goal.invariant-try_edges-loop-edge
invariant-try_edges-loop-edge l =
    way_through_each (λ seen holder. way_down l.depth l.tx l.edges seen holder) l.tx l.at l.entered (drop l.edge-index l.edges)
    ≡ way_through_each (λ seen holder. way_down l.depth l.tx l.edges seen holder) l.tx l.at l.initial.entered l.edges
