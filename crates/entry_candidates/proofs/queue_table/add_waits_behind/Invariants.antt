use Rattle.std.proofs.Common.{drop, ◌++◌, ◌≡◌}
use Rattle.part_model.specs.Queues.{waits_behind}
use Rattle.entry_candidates.proofs.queue_table.add_waits_behind.Given as goal

abbrev pub invariant-loop-waiter : goal.invariant-loop-waiter
invariant-loop-waiter l = l.waits ++ waits_behind l.key l.owner l.of (drop l.waiter-index l.waiters) ≡ l.initial.waits
    ++ waits_behind l.key l.owner l.of l.waiters
