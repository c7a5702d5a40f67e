use Rattle.std.proofs.Common.{drop, ◌≡◌}
use Rattle.part_model.specs.Queues.{first_blocked}
use Rattle.entry_candidates.proofs.queues.Queues.first_blocked.Given as goal

abbrev pub invariant-loop-key : goal.invariant-loop-key
invariant-loop-key l = first_blocked l.self (drop l.key-index l.keys) l.tx ≡ first_blocked l.self l.keys l.tx
