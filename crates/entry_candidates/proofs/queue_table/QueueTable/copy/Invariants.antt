use Rattle.std.proofs.Common.{take, ◌≡◌}
use Rattle.entry_candidates.proofs.queue_table.QueueTable.copy.Given as goal

-- the copy holds the queues so far
abbrev pub invariant-loop-key : goal.invariant-loop-key
invariant-loop-key l = l.queues ≡ take l.key-index l.self
