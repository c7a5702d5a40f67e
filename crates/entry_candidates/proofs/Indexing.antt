-- The index stays that of the queues where one queue changes and the places at its key are settled.
use Rattle.std.proofs.Common.{Bool, List, None, Option, Some, [], ap, inl, inr, refl, subst, sym, unwrap_or, ◌∙◌, ◌∷◌, ◌≡◌, ◌≢◌, ◌⊎◌}
use Rattle.std.proofs.lemmas.Cmp.{tied_itself}
use Rattle.part_model.specs.Queues.{Queues, queue_in, with_queue_in}
use Rattle.hash_table.proofs.Ordered.{something_put}
use Rattle.ignite_types.proofs.NameLaws.{exact_keys, exact_txs, key_total, tx_total}
use Rattle.ignite_types.specs.Names.{key_cmp, tx_cmp}
use Rattle.ignite_types.specs.declared.names.TxId.{TxId}
use Rattle.ignite_types.specs.declared.text.Key.{Key}
use Rattle.ordered_table.proofs.Ascending.{ascending_put, ascending_without}
use Rattle.ordered_table.proofs.Laws as laws
use Rattle.ordered_table.specs.Entries.{at, put, without}
use Rattle.ordered_table.specs.Places.{IsAscending}
use Rattle.ordered_table.specs.declared.table.Table.{Table}
use Rattle.entry_candidates.proofs.Orders.{same_or_apart, tx_or_other}
use Rattle.entry_candidates.proofs.Tables as tables
use Rattle.entry_candidates.specs.Placing.{IsIndexed, IsTidy, Places, place_in_queue, table_of, with_place}

-- A change of one place.

abbrev table_after : Table Key Bool → Key → Option Bool → Table Key Bool
table_after table key None = without key_cmp table key
table_after table key (Some waits) = put key_cmp table key waits

-- the places, with the tables in order
pub record AreTidy (places : Places) : Type 0 where
  pub tidy : IsTidy tx_cmp places
  pub ascend : (tx : TxId) → IsAscending key_cmp (table_of places tx)

filled_put : (places : Places) (tx : TxId) (table after : Table Key Bool) (key : Key) (waits : Bool) →
    put key_cmp table key waits ≡ after → put tx_cmp places tx after ≡ tables.with_list tx_cmp places tx after
filled_put places tx table [] key waits is = absurd (something_put key_cmp table key waits is)
filled_put places tx table (e ∷ es) key waits is = refl

place_list : (places : Places) (tx : TxId) (key : Key) (place : Option Bool) →
    with_place places tx key place ≡ tables.with_list tx_cmp places tx (table_after (table_of places tx) key place)
place_list places tx key None = refl
place_list places tx key (Some waits) = filled_put places tx (table_of places tx) _ key waits refl

table_there : (places : Places) (tx : TxId) (key : Key) (place : Option Bool) → IsTidy tx_cmp places →
    table_of (with_place places tx key place) tx ≡ table_after (table_of places tx) key place
table_there places tx key place tidy =
    rw (place_list places tx key place) (tables.list_there tx_cmp exact_txs tx_total places tx _ tidy.ascending)

table_other : (places : Places) (tx u : TxId) (key : Key) (place : Option Bool) → IsTidy tx_cmp places → u ≢ tx →
    table_of (with_place places tx key place) u ≡ table_of places u
table_other places tx u key place tidy other =
    rw (place_list places tx key place)
    (ap (λ t. unwrap_or t []) (tables.at_other tx_cmp exact_txs tx_total places tx u _ tidy.ascending
    (λ h. other (exact_txs u tx h))))

after_ascends : (table : Table Key Bool) (key : Key) (place : Option Bool) → IsAscending key_cmp table →
    IsAscending key_cmp (table_after table key place)
after_ascends table key None up = ascending_without key_cmp key_total table key up
after_ascends table key (Some waits) up = ascending_put key_cmp key_total table key waits up

after_there : (table : Table Key Bool) (key : Key) (place : Option Bool) → IsAscending key_cmp table →
    at key_cmp (table_after table key place) key ≡ place
after_there table key None up = laws.at_without key_cmp key_total table key up
after_there table key (Some waits) up = laws.at_put_same key_cmp key_total table key waits

after_other : (table : Table Key Bool) (key k : Key) (place : Option Bool) → IsAscending key_cmp table → k ≢ key →
    at key_cmp (table_after table key place) k ≡ at key_cmp table k
after_other table key k None up other = laws.at_without_other key_cmp key_total table key k up (λ h. other (exact_keys k key h))
after_other table key k (Some waits) up other = laws.at_put_other key_cmp key_total table key k waits
    (λ h. other (exact_keys k key h))

pub tidy_place : (places : Places) (tx : TxId) (key : Key) (place : Option Bool) → AreTidy places →
    AreTidy (with_place places tx key place)
tidy_place places tx key place are = record {
  tidy = rw (place_list places tx key place) (tables.tidy_list tx_cmp exact_txs tx_total places tx _ are.tidy);
  ascend = λ u.
      elim (tx_or_other u tx) [
        | inl is ↦ subst (λ (x : TxId). IsAscending key_cmp (table_of (with_place places tx key place) x)) (sym is)
            (rw (table_there places tx key place are.tidy) (after_ascends (table_of places tx) key place (are.ascend tx)))
        | inr other ↦ rw (table_other places tx u key place are.tidy other) (are.ascend u)
      ];
}

-- the place that was settled
pub place_there : (places : Places) (tx : TxId) (key : Key) (place : Option Bool) → AreTidy places →
    at key_cmp (table_of (with_place places tx key place) tx) key ≡ place
place_there places tx key place are =
    rw (table_there places tx key place are.tidy) (after_there (table_of places tx) key place (are.ascend tx))

-- any other key
place_elsewhere : (places : Places) (tx u : TxId) (key k : Key) (place : Option Bool) → AreTidy places → k ≢ key →
    at key_cmp (table_of (with_place places tx key place) u) k ≡ at key_cmp (table_of places u) k
place_elsewhere places tx u key k place are other =
    elim (tx_or_other u tx) [
      | inl is ↦ subst (λ (x : TxId). at key_cmp (table_of (with_place places tx key place) x) k ≡ at key_cmp
          (table_of places x) k) (sym is)
          (rw (table_there places tx key place are.tidy) (after_other (table_of places tx) key k place (are.ascend tx) other))
      | inr apart ↦ ap (λ t. at key_cmp t k) (table_other places tx u key place are.tidy apart)
    ]

-- any other transaction
pub place_of_other : (places : Places) (tx u : TxId) (key : Key) (place : Option Bool) → AreTidy places → u ≢ tx →
    at key_cmp (table_of (with_place places tx key place) u) key ≡ at key_cmp (table_of places u) key
place_of_other places tx u key place are other = ap (λ t. at key_cmp t key) (table_other places tx u key place are.tidy other)

-- The index after a change of one queue.

key_or_other : (a b : Key) → (a ≡ b) ⊎ (a ≢ b)
key_or_other a b =
    elim (same_or_apart key_cmp exact_keys a b) [
      | inl same ↦ inl same
      | inr apart ↦ inr (λ h. apart (ap (λ x. key_cmp a x) (sym h) ∙ tied_itself key_total a))
    ]

pub queue_there : (queues : Queues) (key : Key) (queue : List TxId) → IsTidy key_cmp queues →
    queue_in (with_queue_in queues key queue) key ≡ queue
queue_there queues key queue tidy = tables.list_there key_cmp exact_keys key_total queues key queue tidy.ascending

queue_elsewhere : (queues : Queues) (key k : Key) (queue : List TxId) → IsTidy key_cmp queues → k ≢ key →
    queue_in (with_queue_in queues key queue) k ≡ queue_in queues k
queue_elsewhere queues key k queue tidy other =
    ap (λ q. unwrap_or q []) (tables.at_other key_cmp exact_keys key_total queues key k queue tidy.ascending
    (λ h. other (exact_keys k key h)))

pub are_tidy : (queues : Queues) (places : Places) → IsIndexed queues places → AreTidy places
are_tidy queues places indexed = record { tidy = indexed.places_tidy; ascend = indexed.tables_ascend }

indexed_after : (queues : Queues) (places after : Places) (key : Key) (queue : List TxId) → IsIndexed queues places →
    AreTidy after
    → ((u : TxId) (k : Key) → k ≢ key → at key_cmp (table_of after u) k ≡ at key_cmp (table_of places u) k)
    → ((u : TxId) → at key_cmp (table_of after u) key ≡ place_in_queue queue u)
    → IsIndexed (with_queue_in queues key queue) after
indexed_after queues places after key queue indexed are elsewhere here = record {
  queues_tidy = tables.tidy_list key_cmp exact_keys key_total queues key queue indexed.queues_tidy;
  places_tidy = are.tidy;
  tables_ascend = are.ascend;
  tied = λ u k.
      elim (key_or_other k key) [
        | inl is ↦ subst (λ (x : Key). at key_cmp (table_of after u) x ≡ place_in_queue
            (queue_in (with_queue_in queues key queue) x) u) (sym is) (here u
            ∙ ap (λ q. place_in_queue q u) (sym (queue_there queues key queue indexed.queues_tidy)))
        | inr other ↦ elsewhere u k other ∙ indexed.tied u k
            ∙ ap (λ q. place_in_queue q u) (sym (queue_elsewhere queues key k queue indexed.queues_tidy other))
      ];
}

-- where the places of all but one stay
pub indexed_one : (queues : Queues) (places : Places) (key : Key) (queue : List TxId) (tx : TxId) → IsIndexed queues places
    → ((u : TxId) → u ≢ tx → place_in_queue queue u ≡ place_in_queue (queue_in queues key) u)
    → IsIndexed (with_queue_in queues key queue) (with_place places tx key (place_in_queue queue tx))
indexed_one queues places key queue tx indexed stay =
    let are = are_tidy queues places indexed in
    indexed_after queues places (with_place places tx key (place_in_queue queue tx)) key queue indexed
    (tidy_place places tx key _ are)
    (λ u k other. place_elsewhere places tx u key k _ are other)
    (λ u.
    elim (tx_or_other u tx) [
      | inl is ↦ subst (λ (x : TxId). at key_cmp (table_of (with_place places tx key (place_in_queue queue tx)) x) key
          ≡ place_in_queue queue x) (sym is) (place_there places tx key _ are)
      | inr other ↦ place_of_other places tx u key _ are other ∙ indexed.tied u key ∙ sym (stay u other)
    ])

-- where one leaves, another takes its place, and those of all others stay
pub indexed_two : (queues : Queues) (places : Places) (key : Key) (queue : List TxId) (tx next : TxId) →
    IsIndexed queues places → next ≢ tx → place_in_queue queue tx ≡ None
    → ((u : TxId) → u ≢ tx → u ≢ next → place_in_queue queue u ≡ place_in_queue (queue_in queues key) u)
    → IsIndexed (with_queue_in queues key queue) (with_place (with_place places tx key None) next key
    (place_in_queue queue next))
indexed_two queues places key queue tx next indexed apart none stay =
    let are = are_tidy queues places indexed in
    let between = tidy_place places tx key None are in
    let left = with_place places tx key None in
    let after = with_place left next key (place_in_queue queue next) in
    indexed_after queues places after key queue indexed (tidy_place left next key _ between)
    (λ u k other. place_elsewhere left next u key k _ between other ∙ place_elsewhere places tx u key k None are other)
    (λ u.
    elim (tx_or_other u next) [
      | inl is ↦ subst (λ (x : TxId). at key_cmp (table_of after x) key ≡ place_in_queue queue x) (sym is)
          (place_there left next key _ between)
      | inr other ↦ place_of_other left next u key _ between other ∙
          elim (tx_or_other u tx) [
            | inl is ↦ subst (λ (x : TxId). at key_cmp (table_of left x) key ≡ place_in_queue queue x) (sym is)
                (place_there places tx key None are ∙ sym none)
            | inr other_tx ↦ place_of_other places tx u key None are other_tx ∙ indexed.tied u key ∙ sym (stay u other_tx other)
          ]
    ])
