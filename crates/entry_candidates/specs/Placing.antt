-- Where a transaction stands: for each transaction the keys in whose queues it is found, and whether behind the owner.
use Rattle.std.specs.Prelude.{Bool, None, Option, Some, [], false, if◌then◌else◌, true, unwrap_or, ◌≡◌, ◌≢◌, ◌∷◌}
use Rattle.part_model.specs.Queues.{Queues, is_queued, queue_in}
use Rattle.ignite_types.specs.Names.{key_cmp, same_tx, tx_cmp}
use Rattle.ignite_types.specs.declared.list.List.{List}
use Rattle.ignite_types.specs.declared.names.TxId.{TxId}
use Rattle.ignite_types.specs.declared.text.Key.{Key}
use Rattle.ordered_table.specs.Entries.{at, put, without}
use Rattle.ordered_table.specs.Places.{IsAscending}
use Rattle.ordered_table.specs.declared.table.Table.{Table}
use Rattle.std.specs.declared.cmp.Ordering.{Ordering}

-- a place in a queue: whether it is one behind the owner; a transaction that owns the key and waits for it once more waits
abbrev pub place_in_queue : List TxId → TxId → Option Bool
place_in_queue [] tx = None
place_in_queue (owner ∷ waiters) tx =
    if is_queued tx waiters then Some true else (if same_tx tx owner then Some false else None)

abbrev pub Places : Type 0
Places = List (TxId × Table Key Bool)

abbrev pub table_of : Places → TxId → Table Key Bool
table_of places tx = unwrap_or (at tx_cmp places tx) []

-- an empty table is not kept
abbrev pub with_table : Places → TxId → Table Key Bool → Places
with_table places tx [] = without tx_cmp places tx
with_table places tx (e ∷ es) = put tx_cmp places tx (e ∷ es)

abbrev pub with_place : Places → TxId → Key → Option Bool → Places
with_place places tx key None = with_table places tx (without key_cmp (table_of places tx) key)
with_place places tx key (Some waits) = put tx_cmp places tx (put key_cmp (table_of places tx) key waits)

-- the keys ascend, and no list is empty
pub record IsTidy {K X : Type 0} (cmp : K → K → Ordering) (es : List (K × List X)) : Type 0 where
  pub ascending : IsAscending cmp es
  pub filled : (k : K) → at cmp es k ≢ Some []

-- the places are those of the queues
pub record IsIndexed (queues : Queues) (places : Places) : Type 0 where
  pub queues_tidy : IsTidy key_cmp queues
  pub places_tidy : IsTidy tx_cmp places
  pub tables_ascend : (tx : TxId) → IsAscending key_cmp (table_of places tx)
  pub tied : (tx : TxId) (key : Key) → at key_cmp (table_of places tx) key ≡ place_in_queue (queue_in queues key) tx
