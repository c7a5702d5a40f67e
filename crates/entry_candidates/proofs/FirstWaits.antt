-- The first wait of a transaction, by key, is found at the keys at which it stands.
use Rattle.std.proofs.Common.{Bool, List, None, Some, [], ap, false, inl, inr, refl, slice_get, sym, true, unwrap_or, ◌++◌, ◌||◌, ◌∙◌, ◌∷◌, ◌≡◌, ◌≢◌}
use Rattle.std.specs.List.{flat_map}
use Rattle.part_model.specs.Queues.{Queues, edges_of, is_queued, queue_in, waits_behind, waits_in}
use Rattle.ignite_types.proofs.NameLaws.{exact_keys, key_total, same_tx_itself}
use Rattle.ignite_types.specs.Names.{key_cmp, same_tx}
use Rattle.ignite_types.specs.declared.message.Wait.{Wait}
use Rattle.ignite_types.specs.declared.names.TxId.{TxId}
use Rattle.ignite_types.specs.declared.text.Key.{Key}
use Rattle.ordered_table.specs.declared.table.Table.{Table}
use Rattle.entry_candidates.proofs.Gathered.{given_same}
use Rattle.entry_candidates.proofs.Orders.{same_tx_apart, tx_or_other}
use Rattle.entry_candidates.proofs.Reading.{each_found, flat_map_read}
use Rattle.entry_candidates.specs.Gathering.{else_wait, wait_among}
use Rattle.entry_candidates.specs.Placing.{IsIndexed, Places, place_in_queue, table_of}

-- Of one transaction's waits behind an owner there is one or none.

listed_itself : (tx : TxId) → is_queued tx (tx ∷ []) ≡ true
listed_itself tx = ap (λ b. b || false) (same_tx_itself tx)

not_listed : (w tx : TxId) → w ≢ tx → is_queued w (tx ∷ []) ≡ false
not_listed w tx other = ap (λ b. b || false) (same_tx_apart w tx other)

behind_more : (tx w : TxId) (ws : List TxId) (b : Bool) → w ≢ tx → is_queued tx (w ∷ ws) ≡ b → is_queued tx ws ≡ b
behind_more tx w ws b other known = ap (λ c. c || is_queued tx ws) (sym (same_tx_apart tx w (λ is. other (sym is)))) ∙ known

pub first_behind : (key : Key) (tx owner : TxId) (waiters : List TxId) → is_queued tx waiters ≡ true →
    slice_get (waits_behind key owner (tx ∷ []) waiters) 0 ≡ Some (record { key = key; waiter = tx; holder = owner })
first_behind key tx owner [] there = absurd (cc)
first_behind key tx owner (w ∷ ws) there =
    elim (tx_or_other w tx) [
      | inl is ↦ rw is (rw (listed_itself tx) refl)
      | inr other ↦ rw (not_listed w tx other) (first_behind key tx owner ws (behind_more tx w ws true other there))
    ]

pub none_behind : (key : Key) (tx owner : TxId) (waiters : List TxId) → is_queued tx waiters ≡ false →
    waits_behind key owner (tx ∷ []) waiters ≡ []
none_behind key tx owner [] absent = refl
none_behind key tx owner (w ∷ ws) absent =
    elim (tx_or_other w tx) [
      | inl is ↦ let here : is_queued tx (w ∷ ws) ≡ true = ap (λ (x : TxId). same_tx tx x || is_queued tx ws) is
          ∙ ap (λ b. b || is_queued tx ws) (same_tx_itself tx) in absurd (cc)
      | inr other ↦ rw (not_listed w tx other) (none_behind key tx owner ws (behind_more tx w ws false other absent))
    ]

-- What is found first is the first of all.

ahead : (xs ys : List Wait) → else_wait (slice_get xs 0) (slice_get ys 0) ≡ slice_get (xs ++ ys) 0
ahead [] ys = refl
ahead (x ∷ xs) ys = refl

first_is : (queues : Queues) (tx : TxId) (es : Table Key Bool) →
    wait_among queues tx es ≡ slice_get (flat_map (λ (e : Key × Bool). waits_in e.0 (tx ∷ []) (queue_in queues e.0)) es) 0
first_is queues tx [] = refl
first_is queues tx (e ∷ es) =
    let here = waits_in e.0 (tx ∷ []) (queue_in queues e.0) in
    ap (else_wait (slice_get here 0)) (first_is queues tx es)
    ∙ ahead here (flat_map (λ (f : Key × Bool). waits_in f.0 (tx ∷ []) (queue_in queues f.0)) es)

-- Where a transaction does not stand it does not wait.
nowhere : (tx : TxId) (key : Key) (queue : List TxId) → place_in_queue queue tx ≡ None → waits_in key (tx ∷ []) queue ≡ []
nowhere tx key [] absent = refl
nowhere tx key (owner ∷ waiters) absent =
    elim (is_queued tx waiters) as (λ b. is_queued tx waiters ≡ b → waits_behind key owner (tx ∷ []) waiters ≡ []) [
      | true ↦ λ g. let place : place_in_queue (owner ∷ waiters) tx ≡ Some true = rw g refl in absurd (cc)
      | false ↦ λ g. none_behind key tx owner waiters g
    ] refl

pub first_wait_is : (queues : Queues) (places : Places) (tx : TxId) → IsIndexed queues places →
    wait_among queues tx (table_of places tx) ≡ slice_get (edges_of queues (tx ∷ [])) 0
first_wait_is queues places tx indexed =
    let up = indexed.queues_tidy.ascending in
    let give = λ (k : Key). waits_in k (tx ∷ []) (queue_in queues k) in
    let same = given_same key_cmp key_total exact_keys give (table_of places tx) queues (indexed.tables_ascend tx) up
    (λ k none. nowhere tx k (queue_in queues k) (sym (indexed.tied tx k) ∙ none))
    (λ k none. ap (λ t. waits_in k (tx ∷ []) (unwrap_or t [])) none) in
    let read = flat_map_read key_cmp [] (λ k queue. waits_in k (tx ∷ []) queue) queues queues
    (each_found key_cmp key_total queues up) in
    first_is queues tx (table_of places tx) ∙ ap (λ waits. slice_get waits 0) (same ∙ read)
