use Rattle.std.proofs.Common.{drop, ◌≡◌}
use Rattle.entry_candidates.specs.Gathering.{wait_among}
use Rattle.entry_candidates.proofs.queues.wait_among.Given as goal

abbrev pub invariant-loop-key : goal.invariant-loop-key
invariant-loop-key l = wait_among l.queues l.tx (drop l.key-index l.table) ≡ wait_among l.queues l.tx l.table
