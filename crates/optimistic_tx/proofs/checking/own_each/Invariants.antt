use Rattle.std.proofs.Common.{drop, ◌≡◌}
use Rattle.act_rows.specs.Locks.{after_own_each}
use Rattle.optimistic_tx.proofs.checking.own_each.Given as goal

abbrev pub invariant-loop-want : goal.invariant-loop-want
invariant-loop-want l = after_own_each l.node l.tx l.top (drop l.want-index l.wanted) ≡ after_own_each l.initial.node l.tx
    l.top l.wanted
