-- Lock queues: for each key that is held the transactions at its lock, the first of which owns it.
use Rattle.std.specs.List.{flat_map, list_any}
use Rattle.std.specs.Prelude.{Bool, None, Option, Some, [], filter, fold, if◌then◌else◌, map, not, slice_get, unwrap_or, ◌++◌, ◌∷◌}
use Rattle.part_model.specs.Tables.{keys_where}
use Rattle.ignite_types.specs.Names.{key_cmp, same_tx, tx_cmp}
use Rattle.ignite_types.specs.declared.list.List.{List}
use Rattle.ignite_types.specs.declared.message.Wait.{Wait}
use Rattle.ignite_types.specs.declared.message.Waiters.{Waiters}
use Rattle.ignite_types.specs.declared.names.TxId.{TxId}
use Rattle.ignite_types.specs.declared.text.Key.{Key}
use Rattle.ordered_set.specs.Members.{with_member}
use Rattle.ordered_table.specs.Entries.{at, put, without}

abbrev pub Queues : Type 0
Queues = List (Key × List TxId)

abbrev pub queue_in : Queues → Key → List TxId
queue_in queues key = unwrap_or (at key_cmp queues key) []

-- an empty queue is not kept
abbrev pub with_queue_in : Queues → Key → List TxId → Queues
with_queue_in queues key [] = without key_cmp queues key
with_queue_in queues key (tx ∷ txs) = put key_cmp queues key (tx ∷ txs)

abbrev pub owner_in : Queues → Key → Option TxId
owner_in queues key = slice_get (queue_in queues key) 0

-- the transaction stands at the end of the key's queue
abbrev pub queues_with : Queues → TxId → Key → Queues
queues_with queues tx key = with_queue_in queues key (queue_in queues key ++ tx ∷ [])

-- the queue without the transaction
abbrev pub queue_without : TxId → List TxId → List TxId
queue_without tx queue = filter (λ (u : TxId). not (same_tx u tx)) queue

abbrev pub queues_without : Queues → TxId → Key → Queues
queues_without queues tx key = with_queue_in queues key (queue_without tx (queue_in queues key))

abbrev pub is_queued : TxId → List TxId → Bool
is_queued tx queue = list_any (λ (u : TxId). same_tx tx u) queue

-- the keys in whose queues the transaction stands, in the keys' order
abbrev pub keys_queued_for : Queues → TxId → List Key
keys_queued_for queues tx = keys_where (λ (e : Key × List TxId). is_queued tx e.1) queues

-- the owner, where it is another transaction than this
abbrev pub other_owner : TxId → Option TxId → Option TxId
other_owner tx None = None
other_owner tx (Some owner) = if same_tx tx owner then None else Some owner

abbrev pub blocked_by : Key → Option TxId → Option (Key × TxId) → Option (Key × TxId)
blocked_by key None later = later
blocked_by key (Some owner) later = Some (key, owner)

-- the first of these keys that another transaction owns, with its owner
abbrev pub first_blocked : Queues → List Key → TxId → Option (Key × TxId)
first_blocked queues [] tx = None
first_blocked queues (key ∷ keys) tx = blocked_by key (other_owner tx (owner_in queues key)) (first_blocked queues keys tx)

-- Waits and who stands.

-- those of the waiting ones that are listed, each waiting for the owner
abbrev pub waits_behind : Key → TxId → List TxId → List TxId → List Wait
waits_behind key owner of waiters = map (λ (w : TxId). record { key = key; waiter = w; holder = owner })
    (filter (λ (w : TxId). is_queued w of) waiters)

abbrev pub waits_in : Key → List TxId → List TxId → List Wait
waits_in key of [] = []
waits_in key of (owner ∷ waiters) = waits_behind key owner of waiters

-- the waits of these transactions, by key and then place
abbrev pub edges_of : Queues → List TxId → List Wait
edges_of queues of = flat_map (λ (e : Key × List TxId). waits_in e.0 of e.1) queues

abbrev pub with_members : List TxId → List TxId → List TxId
with_members set [] = set
with_members set (tx ∷ txs) = with_members (with_member tx_cmp set tx) txs

-- each transaction that stands in some queue, once, ascending
abbrev pub queued_txs : Queues → List TxId
queued_txs queues = fold (λ (set : List TxId) (e : Key × List TxId). with_members set e.1) [] queues

-- all queues, by key
abbrev pub lists_of : Queues → List Waiters
lists_of queues = map (λ (e : Key × List TxId). record { key = e.0; txs = e.1 }) queues
