-- What each call makes of the queues and of their index.
use Rattle.std.proofs.Common.{Bool, IsSome, List, None, Option, Some, [], add-one, ap, arith, false, get_or, is_some, length, refl, slice_get, subst, suc, sym, take, take-suc, true, ◌+◌, ◌++◌, ◌-◌, ◌<◌, ◌≤◌, ◌||◌, ◌∙◌, ◌∷◌, ◌≡◌, ◌≢◌, ℕ}
use Rattle.std.proofs.Math.Bool.{or-true}
use Rattle.part_model.specs.Queues.{Queues, is_queued, owner_in, queue_in, queue_without, queues_with, queues_without, with_queue_in}
use Rattle.ignite_types.proofs.NameLaws.{exact_keys, key_total, same_tx_itself, same_tx_true}
use Rattle.ignite_types.specs.Names.{key_cmp, same_tx}
use Rattle.ignite_types.specs.declared.names.TxId.{TxId}
use Rattle.ignite_types.specs.declared.text.Key.{Key}
use Rattle.ordered_table.specs.Entries.{at}
use Rattle.entry_candidates.proofs.Indexing.{are_tidy, indexed_one, indexed_two, place_of_other, queue_there}
use Rattle.entry_candidates.proofs.Named.{front_before}
use Rattle.entry_candidates.proofs.Orders.{same_tx_apart, tx_or_other}
use Rattle.entry_candidates.proofs.Standing as standing
use Rattle.entry_candidates.proofs.Tables as tables
use Rattle.entry_candidates.specs.Owning.{enqueued_each, front_of, is_owned_by, next_owner, taken_back, waiters_in, waits_at, without_last_in, without_waiter, without_waiter_in}
use Rattle.entry_candidates.specs.Placing.{IsIndexed, IsTidy, Places, place_in_queue, table_of, with_place}
use Rattle.entry_candidates.specs.Taking.{IsLast}

tells_tx : standing.Tells same_tx
tells_tx = record { itself = same_tx_itself; apart = same_tx_apart; decide = tx_or_other }

pub is_placed : (queue : List TxId) (tx : TxId) → is_some (place_in_queue queue tx) ≡ is_queued tx queue
is_placed = standing.is_placed tells_tx

-- Coming.

pub enqueued_indexed : (queues : Queues) (places : Places) (key : Key) (tx : TxId) → IsIndexed queues places
    → IsIndexed (queues_with queues tx key) (with_place places tx key (Some (is_some (owner_in queues key))))
enqueued_indexed queues places key tx indexed =
    let queue = queue_in queues key in
    subst (λ (p : Option Bool). IsIndexed (queues_with queues tx key) (with_place places tx key p))
    (standing.place_pushed tells_tx queue tx)
    (indexed_one queues places key (queue ++ tx ∷ []) tx indexed
    (λ u other. standing.place_pushed_other tells_tx queue tx u other))

-- one who came leaves again
pub taken_back_one : (queues : Queues) (key : Key) (tx : TxId) → IsTidy key_cmp queues →
    without_last_in (queues_with queues tx key) key ≡ queues
taken_back_one queues key tx tidy =
    let queue = queue_in queues key in
    rw (queue_there queues key (queue ++ tx ∷ []) tidy, front_before queue tx)
    (tables.list_again key_cmp exact_keys key_total queues key (queue ++ tx ∷ []) queue tidy.ascending
    ∙ tables.list_same key_cmp exact_keys key_total queues key (tidy.filled key))

-- all who came leave again, the last one first
pub all_taken_back : (queues : Queues) (keys : List Key) (tx : TxId) → IsTidy key_cmp queues →
    taken_back (enqueued_each queues tx keys) keys ≡ queues
all_taken_back queues [] tx tidy = refl
all_taken_back queues (key ∷ keys) tx tidy =
    let queue = queue_in queues key in
    ap (λ (q : Queues). without_last_in q key) (all_taken_back (queues_with queues tx key) keys tx
    (tables.tidy_list key_cmp exact_keys key_total queues key (queue ++ tx ∷ []) tidy))
    ∙ taken_back_one queues key tx tidy

enqueued_behind : (queues : Queues) (keys : List Key) (key : Key) (tx : TxId) → enqueued_each queues tx (keys ++ key ∷ [])
    ≡ queues_with (enqueued_each queues tx keys) tx key
enqueued_behind queues [] key tx = refl
enqueued_behind queues (k ∷ keys) key tx = enqueued_behind (queues_with queues tx k) keys key tx

pub enqueued_more : (queues : Queues) (keys : List Key) (i : ℕ) (key : Key) (tx : TxId) → i < length keys →
    key ≡ get_or keys i key → enqueued_each queues tx (take (i + 1) keys) ≡ queues_with
    (enqueued_each queues tx (take i keys)) tx key
enqueued_more queues keys i key tx within here =
    rw add-one (ap (enqueued_each queues tx) (take-suc keys i key within ∙ ap (λ k. take i keys ++ k ∷ []) (sym here))
    ∙ enqueued_behind queues (take i keys) key tx)

taken_behind : (queues : Queues) (keys : List Key) (key : Key) → taken_back queues (keys ++ key ∷ []) ≡ taken_back
    (without_last_in queues key) keys
taken_behind queues [] key = refl
taken_behind queues (k ∷ keys) key = ap (λ (q : Queues). without_last_in q k) (taken_behind queues keys key)

pub taken_more : (queues : Queues) (keys : List Key) (i : ℕ) (key : Key) → 0 < i → i ≤ length keys →
    key ≡ get_or keys (i - 1) key → taken_back (without_last_in queues key) (take (i - 1) keys) ≡ taken_back queues
    (take i keys)
taken_more queues keys i key some within here =
    let inside : i - 1 < length keys = omega arith in
    let front : suc (i - 1) ≡ i = omega arith in
    let longer = rw front at (take-suc keys (i - 1) key inside ∙ ap (λ k. take (i - 1) keys ++ k ∷ []) (sym here)) in
    sym (ap (taken_back queues) longer ∙ taken_behind queues (take (i - 1) keys) key)

pub none_last : (queues : Queues) (key : Key) → IsTidy key_cmp queues → queue_in queues key ≡ [] →
    without_last_in queues key ≡ queues
none_last queues key tidy empty =
    ap (with_queue_in queues key) (ap front_of empty ∙ sym empty) ∙ tables.list_same key_cmp exact_keys key_total queues key
    (tidy.filled key)

pub last_indexed : (queues : Queues) (places : Places) (key : Key) (tx : TxId) → IsIndexed queues places →
    IsLast (queue_in queues key) tx
    → IsIndexed (without_last_in queues key)
    (with_place places tx key (place_in_queue (queue_in (without_last_in queues key) key) tx))
last_indexed queues places key tx indexed last =
    let front = front_of (queue_in queues key) in
    rw (queue_there queues key front indexed.queues_tidy)
    (indexed_one queues places key front tx indexed (λ u other.
    sym (standing.place_pushed_other tells_tx front tx u other) ∙ ap (λ q. place_in_queue q u) (sym last.parts)))

pub last_placed : (queues : Queues) (places : Places) (key : Key) (tx : TxId) → IsIndexed queues places →
    IsLast (queue_in queues key) tx → IsSome (at key_cmp (table_of places tx) key)
last_placed queues places key tx indexed last =
    let here : at key_cmp (table_of places tx) key ≡ Some _ = indexed.tied tx key ∙ ap (λ q. place_in_queue q tx) last.parts
    ∙ standing.place_pushed tells_tx (front_of (queue_in queues key)) tx in
    rw here refl

-- The owner leaves.

owner_first : (queue : List TxId) (tx : TxId) → is_owned_by tx (slice_get queue 0) ≡ true → (ws : List TxId) × (queue ≡ tx ∷ ws)
owner_first [] tx owner = absurd (cc)
owner_first (o ∷ ws) tx owner = (ws, ap (λ (x : TxId). x ∷ ws) (sym (same_tx_true tx o owner)))

first_is : (queue : List TxId) (tx : TxId) → slice_get queue 0 ≡ Some tx → (ws : List TxId) × (queue ≡ tx ∷ ws)
first_is [] tx first = absurd (cc)
first_is (o ∷ ws) tx first = let same : o ≡ tx = cc in (ws, ap (λ (x : TxId). x ∷ ws) same)

none_first : (queue : List TxId) → slice_get queue 0 ≡ None → queue ≡ []
none_first [] first = refl
none_first (o ∷ ws) first = absurd (cc)

-- the queue that an owner leaves
left_behind : (queues : Queues) (tx : TxId) (key : Key) (ws : List TxId) → queue_in queues key ≡ tx ∷ ws →
    queue_without tx (queue_in queues key) ≡ queue_without tx ws
left_behind queues tx key ws is = ap (queue_without tx) is ∙ standing.left_same tells_tx tx ws

pub owner_left : (queues : Queues) (places : Places) (tx : TxId) (key : Key) → IsIndexed queues places →
    owner_in (queues_without queues tx key) key ≡ slice_get (queue_without tx (queue_in queues key)) 0
owner_left queues places tx key indexed =
    ap (λ q. slice_get q 0) (queue_there queues key (queue_without tx (queue_in queues key)) indexed.queues_tidy)

pub next_is : (queues : Queues) (places : Places) (tx : TxId) (key : Key) → IsIndexed queues places →
    is_owned_by tx (owner_in queues key) ≡ true → owner_in (queues_without queues tx key) key ≡ next_owner queues tx key
next_is queues places tx key indexed owner = rw owner (owner_left queues places tx key indexed)

pub next_placed : (queues : Queues) (places : Places) (tx next : TxId) (key : Key) → IsIndexed queues places →
    is_owned_by tx (owner_in queues key) ≡ true → owner_in (queues_without queues tx key) key ≡ Some next
    → IsSome (at key_cmp (table_of (with_place places tx key None) next) key)
next_placed queues places tx next key indexed owner first =
    let ws = owner_first (queue_in queues key) tx owner in
    let rest = first_is (queue_without tx ws.0) next (ap (λ q. slice_get q 0) (sym (left_behind queues tx key ws.0 ws.1))
    ∙ sym (owner_left queues places tx key indexed) ∙ first) in
    let other = standing.next_other tells_tx tx next ws.0 rest.0 rest.1 in
    let waited = standing.next_waited tells_tx tx next ws.0 rest.0 rest.1 in
    ap is_some (place_of_other places tx next key None (are_tidy queues places indexed) other ∙ indexed.tied next key
    ∙ ap (λ q. place_in_queue q next) ws.1) ∙ is_placed (tx ∷ ws.0) next ∙ waited

pub released_indexed : (queues : Queues) (places : Places) (tx next : TxId) (key : Key) → IsIndexed queues places →
    is_owned_by tx (owner_in queues key) ≡ true → owner_in (queues_without queues tx key) key ≡ Some next
    → IsIndexed (queues_without queues tx key) (with_place (with_place places tx key None) next key
    (place_in_queue (queue_in (queues_without queues tx key) key) next))
released_indexed queues places tx next key indexed owner first =
    let ws = owner_first (queue_in queues key) tx owner in
    let left = queue_without tx (queue_in queues key) in
    let behind = left_behind queues tx key ws.0 ws.1 in
    let rest = first_is (queue_without tx ws.0) next (ap (λ q. slice_get q 0) (sym behind)
    ∙ sym (owner_left queues places tx key indexed) ∙ first) in
    let other = standing.next_other tells_tx tx next ws.0 rest.0 rest.1 in
    rw (queue_there queues key left indexed.queues_tidy)
    (indexed_two queues places key left tx next indexed other
    (standing.not_placed tells_tx left tx (standing.gone tells_tx tx (queue_in queues key)))
    (λ u other_tx other_next.
    ap (λ q. place_in_queue q u) (behind ∙ rest.1)
    ∙ standing.place_next tells_tx tx u next ws.0 rest.0 rest.1 other_tx other_next
    ∙ ap (λ q. place_in_queue q u) (sym ws.1)))

pub last_released : (queues : Queues) (places : Places) (tx : TxId) (key : Key) → IsIndexed queues places →
    is_owned_by tx (owner_in queues key) ≡ true → owner_in (queues_without queues tx key) key ≡ None
    → IsIndexed (queues_without queues tx key) (with_place places tx key None)
last_released queues places tx key indexed owner first =
    let ws = owner_first (queue_in queues key) tx owner in
    let left = queue_without tx (queue_in queues key) in
    let behind = left_behind queues tx key ws.0 ws.1 in
    let empty = none_first left (sym (owner_left queues places tx key indexed) ∙ first) in
    let none : place_in_queue left tx ≡ None = ap (λ q. place_in_queue q tx) empty in
    subst (λ (p : Option Bool). IsIndexed (queues_without queues tx key) (with_place places tx key p)) none
    (indexed_one queues places key left tx indexed (λ u other.
    ap (λ q. place_in_queue q u) empty
    ∙ standing.place_none_next tells_tx tx u ws.0 (sym behind ∙ empty) other
    ∙ ap (λ q. place_in_queue q u) (sym ws.1)))

-- One who waits leaves.

place_without : (tx u : TxId) (queue : List TxId) → u ≢ tx → place_in_queue (without_waiter tx queue) u ≡ place_in_queue queue u
place_without tx u [] other = refl
place_without tx u (o ∷ ws) other = standing.place_dropped tells_tx tx u o ws other

pub dropped_indexed : (queues : Queues) (places : Places) (tx : TxId) (key : Key) → IsIndexed queues places
    → IsIndexed (without_waiter_in queues tx key)
    (with_place places tx key (place_in_queue (queue_in (without_waiter_in queues tx key) key) tx))
dropped_indexed queues places tx key indexed =
    let left = without_waiter tx (queue_in queues key) in
    rw (queue_there queues key left indexed.queues_tidy)
    (indexed_one queues places key left tx indexed (λ u other. place_without tx u (queue_in queues key) other))

waiter_stands : (queue : List TxId) (tx : TxId) → is_queued tx (waiters_in queue) ≡ true → is_queued tx queue ≡ true
waiter_stands [] tx waits = waits
waiter_stands (o ∷ ws) tx waits = ap (λ b. same_tx tx o || b) waits ∙ or-true (same_tx tx o)

pub waiter_placed : (queues : Queues) (places : Places) (tx : TxId) (key : Key) → IsIndexed queues places →
    waits_at queues tx key ≡ true → IsSome (at key_cmp (table_of places tx) key)
waiter_placed queues places tx key indexed waits = ap is_some (indexed.tied tx key) ∙ is_placed (queue_in queues key) tx
    ∙ waiter_stands (queue_in queues key) tx waits

none_without : (queue : List TxId) (tx : TxId) → is_queued tx (waiters_in queue) ≡ false → without_waiter tx queue ≡ queue
none_without [] tx none = refl
none_without (o ∷ ws) tx none = ap (λ r. o ∷ r) (standing.nobody_leaves tells_tx tx ws none)

pub none_dropped : (queues : Queues) (places : Places) (tx : TxId) (key : Key) → IsIndexed queues places →
    waits_at queues tx key ≡ false → queues ≡ without_waiter_in queues tx key
none_dropped queues places tx key indexed none =
    sym (ap (with_queue_in queues key) (none_without (queue_in queues key) tx none)
    ∙ tables.list_same key_cmp exact_keys key_total queues key (indexed.queues_tidy.filled key))
