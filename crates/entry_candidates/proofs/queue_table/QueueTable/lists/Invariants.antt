use Rattle.std.proofs.Common.{drop, map, ◌++◌, ◌≡◌}
use Rattle.part_model.specs.Queues.{queue_in}
use Rattle.ignite_types.specs.declared.message.Waiters.{Waiters}
use Rattle.ignite_types.specs.declared.text.Key.{Key}
use Rattle.entry_candidates.proofs.queue_table.QueueTable.lists.Given as goal

abbrev pub invariant-loop-key : goal.invariant-loop-key
invariant-loop-key l =
    let waiters : Key → Waiters = λ key. record { key = key; txs = queue_in l.self key } in
    l.lists ++ map waiters (drop l.key-index l.key-items) ≡ map waiters l.key-items
