use Rattle.std.proofs.Common.{◌&&◌, drop, ◌≡◌}
use Rattle.std.specs.List.{list_any}
use Rattle.ignite_types.specs.Names.{same_tx}
use Rattle.tx_recovery.proofs.rounds.has_locks.Given as goal

abbrev pub invariant-loop-orphan : goal.invariant-loop-orphan
invariant-loop-orphan l = list_any (λ o. same_tx o.tx l.tx && o.locks) (drop l.orphan-index l.orphan-items) ≡ list_any
    (λ o. same_tx o.tx l.tx && o.locks) l.orphan-items
