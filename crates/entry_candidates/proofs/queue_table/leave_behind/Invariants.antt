use Rattle.std.proofs.Common.{drop, length, take, ◌++◌, ◌-◌, ◌≡◌, ◌≤◌, min}
use Rattle.part_model.specs.Queues.{queue_without}
use Rattle.entry_candidates.proofs.queue_table.leave_behind.Given as goal

-- those from the place on have been looked through; where `from` is past the end, nobody is
abbrev pub invariant-loop-place : goal.invariant-loop-place
invariant-loop-place l = record {
  within : l.place ≤ length l.initial.queue;
  above : min l.from (length l.initial.queue) ≤ l.place;
  left : l.queue ≡ take l.place l.initial.queue ++ queue_without l.tx (drop l.place l.initial.queue);
}

abbrev pub decreases-loop-place : goal.decreases-loop-place
decreases-loop-place l = l.place - l.from
