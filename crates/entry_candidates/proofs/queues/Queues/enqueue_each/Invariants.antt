use Rattle.std.proofs.Common.{take, ◌≡◌}
use Rattle.entry_candidates.specs.Owning.{enqueued_each}
use Rattle.entry_candidates.proofs.queues.Queues.enqueue_each.Given as goal

-- the keys below the place have been gone through
abbrev pub invariant-loop-place : goal.invariant-loop-place
invariant-loop-place l = l.self ≡ enqueued_each l.initial.self l.tx (take l.place l.keys)
