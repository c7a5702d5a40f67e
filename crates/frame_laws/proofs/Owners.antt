-- Keys that no other transaction owns.
use Rattle.std.proofs.Common.{◌≡◌, ◌≢◌, ◌++◌, List, [], ◌∷◌, Option, Some, None, slice_get, unwrap_or, refl, ap, ◌∙◌}
use Rattle.std.specs.Ordering.{match_ordering}
use Rattle.std.specs.declared.cmp.Ordering.TheVariants.{Less, Equal, Greater}
use Rattle.act_rows.specs.Primary.{candidate_of, or_changed}
use Rattle.part_model.specs.Queues.{Queues, blocked_by, first_blocked, other_owner, owner_in, queue_in, queues_with, with_queue_in}
use Rattle.ignite_types.proofs.NameLaws.{key_total, same_tx_itself}
use Rattle.ignite_types.specs.Names.{key_cmp}
use Rattle.ignite_types.specs.declared.answer.Fail.{Fail}
use Rattle.ignite_types.specs.declared.names.TxId.{TxId}
use Rattle.ignite_types.specs.declared.text.Key.{Key}
use Rattle.ordered_table.proofs.Laws as laws
use Rattle.ordered_table.specs.Entries.{at, put}

-- a look-up by a tied key
pub at_put_tied : {V : Type 0} (es : List (Key × V)) (k q : Key) (v : V) → key_cmp q k ≡ Equal →
    at key_cmp (put key_cmp es k v) q ≡ Some v
at_put_tied [] k q v tied = rw tied
at_put_tied (e ∷ es) k q v tied =
    elim (key_cmp k e.0) as (λ r. key_cmp k e.0 ≡ r →
    at key_cmp (match_ordering r ((k, v) ∷ e ∷ es) ((k, v) ∷ es) (e ∷ put key_cmp es k v)) q ≡ Some v) [
      | Less ↦ λ g. rw tied
      | Equal ↦ λ g. rw tied
      | Greater ↦ λ g. rw (key_total.congr q k e.0 tied ∙ g) (at_put_tied es k q v tied)
    ] refl

-- the queue of a key with one more is put in its place
pub enqueued_is : (qs : Queues) (tx : TxId) (key : Key) →
    queues_with qs tx key ≡ put key_cmp qs key (queue_in qs key ++ tx ∷ [])
enqueued_is qs tx key =
    elim (queue_in qs key) as (λ q. with_queue_in qs key (q ++ tx ∷ []) ≡ put key_cmp qs key (q ++ tx ∷ [])) [
      | [] ↦ refl
      | u ∷ q ↦ refl
    ]

pub queue_tied : (qs : Queues) (tx : TxId) (key k : Key) → key_cmp k key ≡ Equal →
    queue_in (queues_with qs tx key) k ≡ queue_in qs key ++ tx ∷ []
queue_tied qs tx key k tied =
    rw (enqueued_is qs tx key) (ap (λ (r : Option (List TxId)). unwrap_or r [])
    (at_put_tied qs key k (queue_in qs key ++ tx ∷ []) tied))

pub queue_apart : (qs : Queues) (tx : TxId) (key k : Key) → key_cmp k key ≢ Equal →
    queue_in (queues_with qs tx key) k ≡ queue_in qs k
queue_apart qs tx key k apart =
    rw (enqueued_is qs tx key) (ap (λ (r : Option (List TxId)). unwrap_or r [])
    (laws.at_put_other key_cmp key_total qs key k (queue_in qs key ++ tx ∷ []) apart))

-- what the test for blocked keys says of the first one and of the others
pub free_here : (key : Key) (owner : Option TxId) (later : Option (Key × TxId)) → blocked_by key owner later ≡ None →
    (owner ≡ None) × (later ≡ None)
free_here key None later free = (refl, free)
free_here key (Some owner) later free = absurd (cc)

own_first : (tx : TxId) (q : List TxId) → other_owner tx (slice_get q 0) ≡ None → other_owner tx (slice_get (q ++ tx ∷ []) 0)
    ≡ None
own_first tx [] free = rw (same_tx_itself tx) refl
own_first tx (u ∷ q) free = free

free_still : (qs : Queues) (tx : TxId) (key k : Key) → other_owner tx (owner_in qs key) ≡ None →
    other_owner tx (owner_in qs k) ≡ None → other_owner tx (owner_in (queues_with qs tx key) k) ≡ None
free_still qs tx key k own free =
    elim (key_cmp k key) as (λ r. key_cmp k key ≡ r → other_owner tx (slice_get (queue_in (queues_with qs tx key) k) 0)
    ≡ None) [
      | Less ↦ λ g. rw (queue_apart qs tx key k (λ h. absurd (cc))) free
      | Equal ↦ λ g. rw (queue_tied qs tx key k g) (own_first tx (queue_in qs key) own)
      | Greater ↦ λ g. rw (queue_apart qs tx key k (λ h. absurd (cc))) free
    ] refl

-- the others stay free when the transaction owns one of them
pub still_free : (qs : Queues) (tx : TxId) (key : Key) (ks : List Key) → other_owner tx (owner_in qs key) ≡ None →
    first_blocked qs ks tx ≡ None → first_blocked (queues_with qs tx key) ks tx ≡ None
still_free qs tx key [] own free = refl
still_free qs tx key (k ∷ ks) own free =
    let here = free_here k (other_owner tx (owner_in qs k)) (first_blocked qs ks tx) free in
    rw (free_still qs tx key k own here.0) (still_free qs tx key ks own here.1)

-- a check that is passed has found no owner
pub unblocked : (blocked : Option (Key × TxId)) (changed : Option Fail) → or_changed (candidate_of blocked) changed ≡ None →
    blocked ≡ None
unblocked None changed passed = refl
unblocked (Some found) changed passed = absurd (cc)
