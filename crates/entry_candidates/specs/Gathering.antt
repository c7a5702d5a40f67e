-- The keys at which one of the listed transactions waits, gathered from where each of them stands.
use Rattle.std.specs.Prelude.{Bool, None, Option, Some, [], if◌then◌else◌, slice_get, ◌∷◌}
use Rattle.part_model.specs.Queues.{Queues, queue_in, waits_in}
use Rattle.ignite_types.specs.Names.{key_cmp}
use Rattle.ignite_types.specs.declared.list.List.{List}
use Rattle.ignite_types.specs.declared.message.Wait.{Wait}
use Rattle.ignite_types.specs.declared.names.TxId.{TxId}
use Rattle.ignite_types.specs.declared.text.Key.{Key}
use Rattle.ordered_table.specs.Entries.{put}
use Rattle.ordered_table.specs.declared.table.Table.{Table}
use Rattle.entry_candidates.specs.Placing.{Places, table_of}

abbrev pub Marks : Type 0
Marks = Table Key Bool

abbrev pub marked : Marks → Table Key Bool → Marks
marked marks [] = marks
marked marks (e ∷ es) = marked (if e.1 then put key_cmp marks e.0 e.1 else marks) es

abbrev pub waited_by : Places → Marks → List TxId → Marks
waited_by places marks [] = marks
waited_by places marks (tx ∷ txs) = waited_by places (marked marks (table_of places tx)) txs

abbrev pub else_wait : Option Wait → Option Wait → Option Wait
else_wait None later = later
else_wait (Some wait) later = Some wait

-- the transaction's first wait at one of these keys
abbrev pub wait_among : Queues → TxId → Table Key Bool → Option Wait
wait_among queues tx [] = None
wait_among queues tx (e ∷ es) = else_wait (slice_get (waits_in e.0 (tx ∷ []) (queue_in queues e.0)) 0) (wait_among queues tx es)
