use Rattle.std.proofs.Common.{length, take, ◌≡◌, ◌≤◌}
use Rattle.entry_candidates.specs.Owning.{taken_back}
use Rattle.entry_candidates.proofs.queues.Queues.take_back.Given as goal

-- the keys below the place are left
abbrev pub invariant-loop-place : goal.invariant-loop-place
invariant-loop-place l = record {
  within : l.place ≤ length l.keys;
  back : taken_back l.self (take l.place l.keys) ≡ taken_back l.initial.self l.keys;
}

abbrev pub decreases-loop-place : goal.decreases-loop-place
decreases-loop-place l = l.place
