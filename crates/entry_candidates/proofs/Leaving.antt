-- One that is not the owner leaves the queue as one of those that wait.
use Rattle.std.proofs.Common.{[], ap, arith, false, refl, slice_get, ◌∷◌, ◌≡◌}
use Rattle.std.specs.Prelude.{List}
use Rattle.std.proofs.lemmas.Bool.Decides.{nat_tests}
use Rattle.part_model.specs.Queues.{Queues, owner_in, queue_in, queue_without, queues_without, with_queue_in}
use Rattle.ignite_types.specs.Names.{same_tx}
use Rattle.ignite_types.specs.declared.names.TxId.{TxId}
use Rattle.ignite_types.specs.declared.text.Key.{Key}
use Rattle.entry_candidates.specs.Owning.{is_owned_by, without_waiter, without_waiter_in}

turned : (a b : TxId) → same_tx a b ≡ false → same_tx b a ≡ false
turned a b apart = grind (arith, nat_tests)

front_stays : (queue : List TxId) (tx : TxId) → is_owned_by tx (slice_get queue 0) ≡ false →
    without_waiter tx queue ≡ queue_without tx queue
front_stays [] tx other = refl
front_stays (owner ∷ waiters) tx other = rw (turned tx owner other) refl

pub other_left : (queues : Queues) (tx : TxId) (key : Key) → is_owned_by tx (owner_in queues key) ≡ false →
    without_waiter_in queues tx key ≡ queues_without queues tx key
other_left queues tx key other = ap (with_queue_in queues key) (front_stays (queue_in queues key) tx other)
