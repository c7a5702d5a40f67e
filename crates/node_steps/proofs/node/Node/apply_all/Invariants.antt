use Rattle.std.proofs.Common.{drop, ◌≡◌}
use Rattle.act_rows.specs.Stores.{after_apply_each}
use Rattle.node_steps.proofs.node.Node.apply_all.Given as goal

abbrev pub invariant-loop-write : goal.invariant-loop-write
invariant-loop-write l = after_apply_each l.self l.tx l.top l.primary (drop l.write-index l.writes)
    ≡ after_apply_each l.initial.self l.tx l.top l.primary l.writes
