-- A transaction's first wait in these queues is the first of its waits.
use Rattle.std.proofs.Common.{List, [], ap, false, refl, slice_get, true, ◌++◌, ◌∙◌, ◌∷◌, ◌≡◌}
use Rattle.part_model.specs.Queues.{Queues, edges_of, is_queued, waits_in}
use Rattle.entry_candidates.proofs.FirstWaits.{first_behind, none_behind}
use Rattle.ignite_types.specs.declared.message.Wait.{Wait}
use Rattle.ignite_types.specs.declared.names.TxId.{TxId}
use Rattle.ignite_types.specs.declared.text.Key.{Key}
use Rattle.tx_model.specs.Outlooks.{or_wait, wait_behind, wait_in}

one_wait : (tx : TxId) (key : Key) (queue : List TxId) → wait_behind tx key queue ≡ slice_get (waits_in key (tx ∷ []) queue) 0
one_wait tx key [] = refl
one_wait tx key (owner ∷ waiters) =
    elim (is_queued tx waiters) as (λ b. is_queued tx waiters ≡ b → wait_behind tx key (owner ∷ waiters) ≡ slice_get
    (waits_in key (tx ∷ []) (owner ∷ waiters)) 0) [
      | true ↦ λ g. rw (first_behind key tx owner waiters g) (rw g refl)
      | false ↦ λ g. rw (none_behind key tx owner waiters g) (rw g refl)
    ] refl

ahead : (xs ys : List Wait) → or_wait (slice_get xs 0) (slice_get ys 0) ≡ slice_get (xs ++ ys) 0
ahead [] ys = refl
ahead (x ∷ xs) ys = refl

pub first_wait_in : (tx : TxId) (queues : Queues) → wait_in tx queues ≡ slice_get (edges_of queues (tx ∷ [])) 0
first_wait_in tx [] = refl
first_wait_in tx (q ∷ qs) =
    ap (λ w. or_wait w (wait_in tx qs)) (one_wait tx q.0 q.1)
    ∙ ap (or_wait (slice_get (waits_in q.0 (tx ∷ []) q.1) 0)) (first_wait_in tx qs)
    ∙ ahead (waits_in q.0 (tx ∷ []) q.1) (edges_of qs (tx ∷ []))
