-- What becomes of a queue as transactions come and go, and what the caller is told.
use Rattle.std.specs.Prelude.{Bool, None, Option, Some, [], false, if◌then◌else◌, slice_get, ◌≡◌, ◌∷◌}
use Rattle.part_model.specs.Queues.{Queues, is_queued, owner_in, queue_in, queue_without, queues_with, queues_without, with_queue_in}
use Rattle.ignite_types.specs.Names.{same_tx}
use Rattle.ignite_types.specs.declared.list.List.{List}
use Rattle.ignite_types.specs.declared.names.TxId.{TxId}
use Rattle.ignite_types.specs.declared.text.Key.{Key}
use Rattle.entry_candidates.specs.declared.answers.OwnFault.{OwnFault}
use Rattle.entry_candidates.specs.declared.answers.OwnFault.TheVariants as fault
use Rattle.entry_candidates.specs.declared.answers.Placed.{Placed}
use Rattle.entry_candidates.specs.declared.answers.Placed.TheVariants as placed

-- behind this owner one waits, and with none there one owns the key
abbrev pub placed_behind : Option TxId → Placed
placed_behind None = placed.Owner
placed_behind (Some owner) = placed.Waits owner

abbrev pub is_owned_by : TxId → Option TxId → Bool
is_owned_by tx None = false
is_owned_by tx (Some owner) = same_tx tx owner

-- an owner leaves; nobody else does
abbrev pub queues_after_release : Queues → TxId → Key → Queues
queues_after_release queues tx key = if is_owned_by tx (owner_in queues key) then queues_without queues tx key else queues

-- who owns the key once this owner has left
abbrev pub next_owner : Queues → TxId → Key → Option TxId
next_owner queues tx key =
    if is_owned_by tx (owner_in queues key) then slice_get (queue_without tx (queue_in queues key)) 0 else None

abbrev pub waiters_in : List TxId → List TxId
waiters_in [] = []
waiters_in (owner ∷ waiters) = waiters

-- the transaction stands behind the key's owner
abbrev pub waits_at : Queues → TxId → Key → Bool
waits_at queues tx key = is_queued tx (waiters_in (queue_in queues key))

abbrev pub without_waiter : TxId → List TxId → List TxId
without_waiter tx [] = []
without_waiter tx (owner ∷ waiters) = owner ∷ queue_without tx waiters

abbrev pub without_waiter_in : Queues → TxId → Key → Queues
without_waiter_in queues tx key = with_queue_in queues key (without_waiter tx (queue_in queues key))

-- Several keys at once.

abbrev pub enqueued_each : Queues → TxId → List Key → Queues
enqueued_each queues tx [] = queues
enqueued_each queues tx (key ∷ keys) = enqueued_each (queues_with queues tx key) tx keys

-- another owner is named exactly where one of the keys has one
abbrev pub Explains : OwnFault → Option (Key × TxId) → Type 0
Explains (fault.Blocked key owner) found = found ≡ Some (key, owner)
Explains fault.NoMemory found = found ≡ None

-- all but the last one
abbrev pub front_of : List TxId → List TxId
front_of [] = []
front_of (tx ∷ []) = []
front_of (tx ∷ next ∷ txs) = tx ∷ front_of (next ∷ txs)

abbrev pub without_last_in : Queues → Key → Queues
without_last_in queues key = with_queue_in queues key (front_of (queue_in queues key))

-- the last one of each of these queues is taken out, that of the last key first
abbrev pub taken_back : Queues → List Key → Queues
taken_back queues [] = queues
taken_back queues (key ∷ keys) = without_last_in (taken_back queues keys) key
