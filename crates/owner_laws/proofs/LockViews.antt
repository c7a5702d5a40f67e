-- What a change of the acting node's state writes in the view.
use Rattle.std.proofs.Common.{◌≡◌, ◌⊎◌, inl, inr, List, [], ◌∷◌, ◌++◌, true, false, if◌then◌else◌, unwrap_or, refl, ap, sym, subst, ◌∙◌}
use Rattle.frame_laws.proofs.Extending.{append_twice}
use Rattle.ignite_types.proofs.NameLaws.{key_total}
use Rattle.act_rows.specs.Steps.{with_out}
use Rattle.part_model.specs.Queues.{Queues, queue_in, with_queue_in}
use Rattle.ignite_types.proofs.NameLaws.{exact_keys}
use Rattle.ignite_types.specs.Names.{key_cmp, same_node}
use Rattle.ignite_types.specs.declared.message.Message.{Message}
use Rattle.ignite_types.specs.declared.message.Out.{Out}
use Rattle.ignite_types.specs.declared.names.NodeId.{NodeId}
use Rattle.ignite_types.specs.declared.names.TxId.{TxId}
use Rattle.ignite_types.specs.declared.text.Key.{Key}
use Rattle.ignite_types.proofs.NameLaws.{same_node_itself, same_node_true}
use Rattle.node_state.specs.Node.{NodeState}
use Rattle.ordered_table.specs.Places.{IsAscending}
use Rattle.scenes.specs.Views.{outbox_for}
use Rattle.owner_laws.specs.LockViews.{Around, of_node, view}
use Rattle.owner_laws.proofs.Lists.{Wrote}
use Rattle.transaction_laws.proofs.Tables.{put_elim, without_elim}

pub of_node_me : {A : Type 0} (me : NodeId) (mine other : A) → of_node me mine me other ≡ mine
of_node_me me mine other = rw same_node_itself

pub wrote_here : {J A : Type 0} (me : NodeId) (f g : J → A) (others : NodeId → J → A) (j : J) (x : A) →
    ((b : J) → ((b ≡ j) × (g b ≡ x)) ⊎ (g b ≡ f b))
    → Wrote (λ n. of_node me f n (others n)) (λ n. of_node me g n (others n)) me j x
wrote_here me f g others j x one a b =
    elim (same_node a me) as (λ t. same_node a me ≡ t → ((a ≡ me) × (b ≡ j) × ((if t then g else others a) b ≡ x))
    ⊎ ((if t then g else others a) b ≡ (if t then f else others a) b)) [
      | true ↦ λ own. here own (one b)
      | false ↦ λ other. inr refl
    ] refl
  where
    here : same_node a me ≡ true → ((b ≡ j) × (g b ≡ x)) ⊎ (g b ≡ f b) → ((a ≡ me) × (b ≡ j) × (g b ≡ x)) ⊎ (g b ≡ f b)
    here own (inl e) = inl (same_node_true a me own, e.0, e.1)
    here own (inr e) = inr e

pub queue_written : (qs : Queues) (k : Key) (q : List TxId) → IsAscending key_cmp qs → (b : Key) →
    ((b ≡ k) × (queue_in (with_queue_in qs k q) b ≡ q)) ⊎ (queue_in (with_queue_in qs k q) b ≡ queue_in qs b)
queue_written qs k [] up b =
    without_elim key_cmp key_total exact_keys (λ b v. ((b ≡ k) × (unwrap_or v [] ≡ [])) ⊎ (unwrap_or v [] ≡ queue_in qs b)) qs
    k up (inl (refl, refl)) (λ b ne. inr refl) b
queue_written qs k (t ∷ q) up b =
    put_elim key_cmp key_total exact_keys (λ b v. ((b ≡ k) × (unwrap_or v [] ≡ t ∷ q)) ⊎ (unwrap_or v [] ≡ queue_in qs b)) qs
    k (t ∷ q) (inl (refl, refl)) (λ b ne. inr refl) b

outs_push : (b : NodeId) (xs : List Out) (to : NodeId) (m : Message) →
    ((b ≡ to) × (outbox_for b (xs ++ record { to = to; msg = m } ∷ []) ≡ outbox_for b xs ++ m ∷ []))
    ⊎ (outbox_for b (xs ++ record { to = to; msg = m } ∷ []) ≡ outbox_for b xs)
outs_push b [] to m =
    elim (same_node to b) as (λ t. same_node to b ≡ t → ((b ≡ to) × ((if t then m ∷ [] else []) ≡ m ∷ []))
    ⊎ ((if t then m ∷ [] else []) ≡ [])) [
      | true ↦ λ own. inl (sym (same_node_true to b own), refl)
      | false ↦ λ other. inr refl
    ] refl
outs_push b (o ∷ xs) to m = go (outs_push b xs to m)
  where
    go : ((b ≡ to) × (outbox_for b (xs ++ record { to = to; msg = m } ∷ []) ≡ outbox_for b xs ++ m ∷ []))
        ⊎ (outbox_for b (xs ++ record { to = to; msg = m } ∷ []) ≡ outbox_for b xs)
        → ((b ≡ to) × (outbox_for b (o ∷ xs ++ record { to = to; msg = m } ∷ []) ≡ outbox_for b (o ∷ xs) ++ m ∷ []))
        ⊎ (outbox_for b (o ∷ xs ++ record { to = to; msg = m } ∷ []) ≡ outbox_for b (o ∷ xs))
    go (inl e) = inl (
      e.0,
      elim (same_node o.to b) as (λ t.
          (if t then o.msg ∷ outbox_for b (xs ++ record { to = to; msg = m } ∷ []) else outbox_for b
          (xs ++ record { to = to; msg = m } ∷ [])) ≡ (if t then o.msg ∷ outbox_for b xs else outbox_for b xs) ++ m ∷ []) [
            | true ↦ ap (λ ms. o.msg ∷ ms) e.1
            | false ↦ e.1
          ],
    )
    go (inr e) = inr (rw e refl)

pub sent_written : (around : Around) (s : NodeState) (to : NodeId) (m : Message) →
    Wrote (view around s).flight (view around (with_out s to m)).flight s.me to ((view around s).flight s.me to ++ m ∷ [])
sent_written around s to m a b =
    elim (same_node a s.me) as (λ t. same_node a s.me ≡ t → let old = λ (n : NodeId). around.link a n ++ outbox_for n
    (if t then s.outbox else (around.others a).outbox) in let new = λ (n : NodeId). around.link a n ++ outbox_for n
    (if t then s.outbox ++ record { to = to; msg = m } ∷ [] else (around.others a).outbox) in
    ((a ≡ s.me) × (b ≡ to) × (new b ≡ (view around s).flight s.me to ++ m ∷ [])) ⊎ (new b ≡ old b)) [
      | true ↦ λ own. here own (outs_push b s.outbox to m)
      | false ↦ λ other. inr refl
    ] refl
  where
    here : same_node a s.me ≡ true →
        ((b ≡ to) × (outbox_for b (s.outbox ++ record { to = to; msg = m } ∷ []) ≡ outbox_for b s.outbox ++ m ∷ []))
        ⊎ (outbox_for b (s.outbox ++ record { to = to; msg = m } ∷ []) ≡ outbox_for b s.outbox)
        → ((a ≡ s.me) × (b ≡ to) × (around.link a b ++ outbox_for b (s.outbox ++ record { to = to; msg = m } ∷ [])
        ≡ (view around s).flight s.me to ++ m ∷ []))
        ⊎ (around.link a b ++ outbox_for b (s.outbox ++ record { to = to; msg = m } ∷ []) ≡ around.link a b
        ++ outbox_for b s.outbox)
    here own (inl e) =
        let me : a ≡ s.me = same_node_true a s.me own in
        inl (
          me,
          e.0,
          ap (λ ms. around.link a b ++ ms) e.1 ∙ sym (append_twice (around.link a b) (outbox_for b s.outbox) (m ∷ []))
              ∙ subst (λ (z : NodeId). around.link a b ++ outbox_for b s.outbox ++ m ∷ [] ≡ around.link z to ++ outbox_for to
              (of_node s.me s.outbox z (around.others z).outbox) ++ m ∷ []) me (rw (own, ← e.0) refl),
        )
    here own (inr e) = inr (ap (λ ms. around.link a b ++ ms) e)
