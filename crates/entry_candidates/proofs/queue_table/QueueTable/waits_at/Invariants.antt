use Rattle.std.proofs.Common.{drop, ◌++◌, ◌≡◌}
use Rattle.std.specs.List.{flat_map}
use Rattle.part_model.specs.Queues.{queue_in, waits_in}
use Rattle.entry_candidates.proofs.queue_table.QueueTable.waits_at.Given as goal

abbrev pub invariant-loop-key : goal.invariant-loop-key
invariant-loop-key l =
    l.waits ++ flat_map (λ e. waits_in e.0 l.of (queue_in l.self e.0)) (drop l.key-index l.key-items) ≡ flat_map
    (λ e. waits_in e.0 l.of (queue_in l.self e.0)) l.key-items
