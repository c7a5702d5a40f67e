-- The waits at the keys that were gathered are all waits.
use Rattle.std.proofs.Common.{Bool, List, None, Some, [], ap, arith, cond, false, filter, inl, inr, is_some, length, map, refl, suc, sym, true, unwrap_or, zero, ◌+◌, ◌++◌, ◌≤◌, ◌||◌, ◌∙◌, ◌∷◌, ◌≡◌, ℕ}
use Rattle.std.proofs.Math.Bool.{or-true}
use Rattle.std.specs.Cmp.{IsTotalOrder}
use Rattle.std.specs.List.{flat_map}
use Rattle.std.specs.Ordering.{match_ordering, ordering_reverse}
use Rattle.std.specs.declared.cmp.Ordering.{Ordering}
use Rattle.std.specs.declared.cmp.Ordering.TheVariants.{Less, Equal, Greater}
use Rattle.std.proofs.lemmas.Cmp.{tied_back}
use Rattle.part_model.specs.Queues.{Queues, edges_of, is_queued, queue_in, waits_in}
use Rattle.ignite_types.proofs.NameLaws.{exact_keys, key_total, same_tx_itself}
use Rattle.ignite_types.specs.Names.{key_cmp, same_tx}
use Rattle.ignite_types.specs.declared.names.TxId.{TxId}
use Rattle.ignite_types.specs.declared.text.Key.{Key}
use Rattle.ordered_table.proofs.Ascending.{ascending_put, below_all-equal, below_all-less}
use Rattle.ordered_table.proofs.Laws as laws
use Rattle.ordered_table.specs.Entries.{at, put}
use Rattle.ordered_table.specs.Places.{IsAscending, IsBelowAll}
use Rattle.ordered_table.specs.declared.table.Table.{Table}
use Rattle.entry_candidates.proofs.Orders.{same_or_apart, same_tx_apart, tx_or_other}
use Rattle.entry_candidates.proofs.Reading.{each_found, flat_map_read}
use Rattle.entry_candidates.specs.Gathering.{Marks, marked, waited_by}
use Rattle.entry_candidates.specs.Placing.{IsIndexed, Places, place_in_queue, table_of}

-- Two tables give the same where each has all keys that give something.

module _ {K X : Type 0} (cmp : K → K → Ordering) (o : IsTotalOrder cmp) (exact : (x y : K) → cmp x y ≡ Equal → x ≡ y)
    (give : K → List X) where
  abbrev all_given : {V : Type 0} → List (K × V) → List X
  all_given es = flat_map (λ e. give e.0) es

  -- the keys of the one that the other does not have give nothing
  abbrev Covers : {V W : Type 0} → List (K × V) → List (K × W) → Type 0
  Covers [] fs = Unit {0}
  Covers (e ∷ es) fs = (at cmp fs e.0 ≡ None → give e.0 ≡ []) × Covers es fs

  covers_from : {V W : Type 0} (es : List (K × V)) (fs : List (K × W)) → ((k : K) → at cmp fs k ≡ None → give k ≡ []) →
      Covers es fs
  covers_from [] fs nothing = tt
  covers_from (e ∷ es) fs nothing = (nothing e.0, covers_from es fs nothing)

  -- an entry below all of them is not asked for
  narrow : {V W : Type 0} (e : K × V) (es : List (K × V)) (fs : List (K × W)) → IsBelowAll cmp e.0 fs → Covers fs (e ∷ es) →
      Covers fs es
  narrow e es [] below covers = tt
  narrow e es (f ∷ fs) below covers =
      let greater : cmp f.0 e.0 ≡ Greater = o.antisymm f.0 e.0 ∙ ap ordering_reverse below.0 in
      ((λ none. covers.0 (rw greater none)), narrow e es fs below.1 covers.1)

  none_given : {V W : Type 0} (es : List (K × V)) (fs : List (K × W)) → fs ≡ [] → Covers es fs → all_given es ≡ []
  none_given [] fs empty covers = refl
  none_given (e ∷ es) fs empty covers = rw (covers.0 (ap (λ r. at cmp r e.0) empty)) (none_given es fs empty covers.1)

  same_given : {V W : Type 0} (n : ℕ) (es : List (K × V)) (fs : List (K × W)) → length es + length fs ≤ n →
      IsAscending cmp es → IsAscending cmp fs → Covers es fs → Covers fs es → all_given es ≡ all_given fs
  same_given n [] fs enough up_e up_f covers_e covers_f = sym (none_given fs [] refl covers_f)
  same_given n (e ∷ es) [] enough up_e up_f covers_e covers_f = none_given (e ∷ es) [] refl covers_e
  same_given zero (e ∷ es) (f ∷ fs) enough up_e up_f covers_e covers_f = absurd (omega arith)
  same_given (suc n) (e ∷ es) (f ∷ fs) enough up_e up_f covers_e covers_f =
      elim (cmp e.0 f.0) as (λ r. cmp e.0 f.0 ≡ r → give e.0 ++ all_given es ≡ give f.0 ++ all_given fs) [
        | Less ↦ λ g.
            rw (covers_e.0 (rw g)) (same_given n es (f ∷ fs) (omega arith) up_e.1 up_f covers_e.1
            (narrow e es (f ∷ fs) (g, below_all-less cmp o e.0 f.0 fs g up_f.0) covers_f))
        | Equal ↦ λ g.
            let back = tied_back o e.0 f.0 g in
            let rest = same_given n es fs (omega arith) up_e.1 up_f.1
            (narrow f fs es (below_all-equal cmp o f.0 e.0 es back up_e.0) covers_e.1)
            (narrow e es fs (below_all-equal cmp o e.0 f.0 fs g up_f.0) covers_f.1) in
            ap (λ k. give k ++ all_given es) (exact e.0 f.0 g) ∙ ap (λ r. give f.0 ++ r) rest
        | Greater ↦ λ g.
            let less : cmp f.0 e.0 ≡ Less = o.antisymm f.0 e.0 ∙ ap ordering_reverse g in
            let rest = same_given n (e ∷ es) fs (omega arith) up_e up_f.1
            (narrow f fs (e ∷ es) (less, below_all-less cmp o f.0 e.0 es less up_e.0) covers_e) covers_f.1 in
            rest ∙ sym (ap (λ r. r ++ all_given fs) (covers_f.0 (rw less)))
      ] refl

  pub given_same : {V W : Type 0} (es : List (K × V)) (fs : List (K × W)) → IsAscending cmp es → IsAscending cmp fs →
      ((k : K) → at cmp es k ≡ None → give k ≡ []) → ((k : K) → at cmp fs k ≡ None → give k ≡ []) → all_given es ≡ all_given fs
  given_same es fs up_e up_f without_e without_f = same_given (length es + length fs) es fs (omega arith) up_e up_f
      (covers_from es fs without_f) (covers_from fs es without_e)

-- The keys that are gathered.

put_keeps : (marks : Marks) (key k : Key) (waits : Bool) → is_some (at key_cmp marks k) ≡ true →
    is_some (at key_cmp (put key_cmp marks key waits) k) ≡ true
put_keeps marks key k waits there =
    elim (same_or_apart key_cmp exact_keys k key) [
      | inl is ↦ rw is (ap is_some (laws.at_put_same key_cmp key_total marks key waits))
      | inr other ↦ ap is_some (laws.at_put_other key_cmp key_total marks key k waits other) ∙ there
    ]

mark_keeps : (marks : Marks) (e : Key × Bool) (k : Key) (b : Bool) → is_some (at key_cmp marks k) ≡ true →
    is_some (at key_cmp (cond b (put key_cmp marks e.0 e.1) marks) k) ≡ true
mark_keeps marks e k true there = put_keeps marks e.0 k e.1 there
mark_keeps marks e k false there = there

marked_keeps : (marks : Marks) (es : Table Key Bool) (k : Key) → is_some (at key_cmp marks k) ≡ true →
    is_some (at key_cmp (marked marks es) k) ≡ true
marked_keeps marks [] k there = there
marked_keeps marks (e ∷ es) k there = marked_keeps (cond e.1 (put key_cmp marks e.0 e.1) marks) es k
    (mark_keeps marks e k e.1 there)

mark_puts : (marks : Marks) (e : Key × Bool) (k : Key) (b : Bool) → k ≡ e.0 → b ≡ true →
    is_some (at key_cmp (cond b (put key_cmp marks e.0 e.1) marks) k) ≡ true
mark_puts marks e k true is waits = rw is (ap is_some (laws.at_put_same key_cmp key_total marks e.0 e.1))
mark_puts marks e k false is waits = absurd (cc)

marked_has : (marks : Marks) (es : Table Key Bool) (k : Key) → at key_cmp es k ≡ Some true →
    is_some (at key_cmp (marked marks es) k) ≡ true
marked_has marks [] k waits = absurd (cc)
marked_has marks (e ∷ es) k waits =
    elim (key_cmp k e.0) as (λ r. key_cmp k e.0 ≡ r → match_ordering r None (Some e.1) (at key_cmp es k) ≡ Some true →
    is_some (at key_cmp (marked (cond e.1 (put key_cmp marks e.0 e.1) marks) es) k) ≡ true) [
      | Less ↦ λ g h. absurd (cc)
      | Equal ↦ λ g h. let here : e.1 ≡ true = cc in marked_keeps (cond e.1 (put key_cmp marks e.0 e.1) marks) es k
          (mark_puts marks e k e.1 (exact_keys k e.0 g) here)
      | Greater ↦ λ g h. marked_has (cond e.1 (put key_cmp marks e.0 e.1) marks) es k h
    ] refl waits

waited_keeps : (places : Places) (marks : Marks) (txs : List TxId) (k : Key) → is_some (at key_cmp marks k) ≡ true →
    is_some (at key_cmp (waited_by places marks txs) k) ≡ true
waited_keeps places marks [] k there = there
waited_keeps places marks (tx ∷ txs) k there = waited_keeps places (marked marks (table_of places tx)) txs k
    (marked_keeps marks (table_of places tx) k there)

waited_has : (places : Places) (marks : Marks) (txs : List TxId) (w : TxId) (k : Key) → is_queued w txs ≡ true →
    at key_cmp (table_of places w) k ≡ Some true → is_some (at key_cmp (waited_by places marks txs) k) ≡ true
waited_has places marks [] w k listed waits = absurd (cc)
waited_has places marks (tx ∷ txs) w k listed waits =
    elim (tx_or_other w tx) [
      | inl is ↦ waited_keeps places (marked marks (table_of places tx)) txs k
          (marked_has marks (table_of places tx) k (ap (λ (x : TxId). at key_cmp (table_of places x) k) (sym is) ∙ waits))
      | inr other ↦ waited_has places (marked marks (table_of places tx)) txs w k
          (ap (λ b. b || is_queued w txs) (sym (same_tx_apart w tx other)) ∙ listed) waits
    ]

mark_ascends : (marks : Marks) (e : Key × Bool) (b : Bool) → IsAscending key_cmp marks →
    IsAscending key_cmp (cond b (put key_cmp marks e.0 e.1) marks)
mark_ascends marks e true up = ascending_put key_cmp key_total marks e.0 e.1 up
mark_ascends marks e false up = up

marked_ascends : (marks : Marks) (es : Table Key Bool) → IsAscending key_cmp marks → IsAscending key_cmp (marked marks es)
marked_ascends marks [] up = up
marked_ascends marks (e ∷ es) up = marked_ascends (cond e.1 (put key_cmp marks e.0 e.1) marks) es (mark_ascends marks e e.1 up)

waited_ascends : (places : Places) (marks : Marks) (txs : List TxId) → IsAscending key_cmp marks →
    IsAscending key_cmp (waited_by places marks txs)
waited_ascends places marks [] up = up
waited_ascends places marks (tx ∷ txs) up = waited_ascends places (marked marks (table_of places tx)) txs
    (marked_ascends marks (table_of places tx) up)

-- Where a key was not gathered, nobody that is listed waits.

none_listed : (of waiters : List TxId) → ((w : TxId) → is_queued w waiters ≡ true → is_queued w of ≡ false) →
    filter (λ (w : TxId). is_queued w of) waiters ≡ []
none_listed of [] none = refl
none_listed of (w ∷ waiters) none =
    let here = none w (ap (λ b. b || is_queued w waiters) (same_tx_itself w)) in
    rw here (none_listed of waiters (λ u there. none u (ap (λ b. same_tx u w || b) there ∙ or-true (same_tx u w))))

false_from : (b : Bool) → (b ≡ true → ⊥) → b ≡ false
false_from true never = absurd (never refl)
false_from false never = refl

no_waits_in : (queues : Queues) (places : Places) (of : List TxId) (k : Key) (queue : List TxId) → IsIndexed queues places →
    queue_in queues k ≡ queue → at key_cmp (waited_by places [] of) k ≡ None → waits_in k of queue ≡ []
no_waits_in queues places of k [] indexed is none = refl
no_waits_in queues places of k (owner ∷ waiters) indexed is none =
    ap (map (λ (w : TxId). record { key = k; waiter = w; holder = owner }))
    (none_listed of waiters (λ w waits. false_from (is_queued w of) (λ listed.
    let place : place_in_queue (owner ∷ waiters) w ≡ Some true = rw waits in
    let there = waited_has places [] of w k listed (indexed.tied w k ∙ ap (λ q. place_in_queue q w) is ∙ place) in
    let gone = ap is_some none in
    cc)))

pub edges_are : (queues : Queues) (places : Places) (of : List TxId) → IsIndexed queues places
    → flat_map (λ (e : Key × Bool). waits_in e.0 of (queue_in queues e.0)) (waited_by places [] of) ≡ edges_of queues of
edges_are queues places of indexed =
    let up = indexed.queues_tidy.ascending in
    given_same key_cmp key_total exact_keys (λ k. waits_in k of (queue_in queues k)) (waited_by places [] of) queues
    (waited_ascends places [] of tt) up
    (λ k none. no_waits_in queues places of k (queue_in queues k) indexed refl none)
    (λ k none. ap (λ t. waits_in k of (unwrap_or t [])) none)
    ∙ flat_map_read key_cmp [] (λ k queue. waits_in k of queue) queues queues (each_found key_cmp key_total queues up)
