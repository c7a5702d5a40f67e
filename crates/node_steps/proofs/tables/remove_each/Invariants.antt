use Rattle.std.proofs.Common.{drop, ◌≡◌}
use Rattle.part_model.specs.Tables.{without_each}
use Rattle.node_steps.proofs.tables.remove_each.Given as goal

abbrev pub invariant-loop-key : goal.invariant-loop-key
invariant-loop-key g l = without_each g.K.Ord.cmp l.table (drop l.key-index l.keys) ≡ without_each g.K.Ord.cmp l.initial.table
    l.keys
