use Rattle.std.proofs.Common.{drop, ◌≡◌}
use Rattle.act_rows.specs.Locks.{after_release_each}
use Rattle.pessimistic_tx.proofs.locks.release_each.Given as goal

abbrev pub invariant-loop-key : goal.invariant-loop-key
invariant-loop-key l = after_release_each l.node l.tx (drop l.key-index l.keys) ≡ after_release_each l.initial.node l.tx l.keys
