-- Rows of locks keep what is true of locks.
use Rattle.std.proofs.Common.{◌≡◌, ◌≢◌, ◌⊎◌, inl, inr, List, [], ◌∷◌, ◌++◌, Bool, true, false, Option, Some, None, refl, ap, sym, subst, ◌∙◌}
use Rattle.act_rows.specs.Locks.{after_grant, after_leave, after_lock, after_lock_behind, after_pass_on, after_release, after_release_each, is_owner, owner_at, with_queued}
use Rattle.act_rows.specs.Steps.{installed_top, with_note, with_out}
use Rattle.act_rows.specs.Stores.{found_at}
use Rattle.part_model.specs.Queues.{keys_queued_for, owner_in, queue_in, queue_without}
use Rattle.ignite_types.specs.Names.{key_cmp, same_top, same_tx, tx_cmp}
use Rattle.ignite_types.specs.Placement.{primary_of}
use Rattle.ignite_types.specs.declared.message.Message.{Message}
use Rattle.ignite_types.specs.declared.names.NodeId.{NodeId}
use Rattle.ignite_types.specs.declared.names.TopVer.{TopVer}
use Rattle.ignite_types.specs.declared.names.TxId.{TxId}
use Rattle.ignite_types.specs.declared.placement.PartMap.{PartMap}
use Rattle.ignite_types.specs.declared.text.Key.{Key}
use Rattle.std.proofs.lemmas.Cmp.{tied_itself}
use Rattle.node_state.specs.Node.{NodeState}
use Rattle.ordered_table.proofs.Ascending as ascending
use Rattle.frame_laws.proofs.Owners.{queue_tied}
use Rattle.ignite_types.proofs.NameLaws.{key_total}
use Rattle.ordered_table.specs.Places.{IsAscending}
use Rattle.ignite_types.specs.declared.journal.Rec.TheVariants as note
use Rattle.ignite_types.specs.declared.message.Message.TheVariants as msg
use Rattle.owner_laws.specs.LockViews.{Around, View, view}
use Rattle.owner_laws.specs.LockFacts.{ALock, ALockOk, Fact, In, InHand, IsNamed, IsNew, IsTouched, Locks, Tag, WaitsOn, is_live, once, owner, tagged, undecided}
use Rattle.transaction_laws.proofs.Tables.{tx_tells}
use Rattle.owner_laws.proofs.Lists.{Wrote, in_left, owner_in_queue}
use Rattle.owner_laws.proofs.LockSteps.{enqueue_keeps, leave_keeps, next_fact, push_keeps}
use Rattle.owner_laws.proofs.LockViews.{of_node_me, queue_written, sent_written, wrote_here}

-- what is true around a node, whose queues are in order
pub record Good (m : PartMap) (around : Around) (s : NodeState) : Type 0 where
  pub locks : Locks m (view around s)
  pub up : IsAscending key_cmp s.queues
  pub installed : s.installed ≡ Some m
  pub seen : same_top m.top s.seen ≡ true
  pub shares_up : IsAscending tx_cmp s.shares

is_owner_is : (tx : TxId) (o : Option TxId) → is_owner tx o ≡ true → o ≡ Some tx
is_owner_is tx None own = absurd (cc)
is_owner_is tx (Some u) own = go (tx_tells tx u)
  where
    go : ((same_tx tx u ≡ true) × (tx ≡ u)) ⊎ ((same_tx tx u ≡ false) × (tx ≢ u)) → Some u ≡ Some tx
    go (inl e) = ap Some (sym e.1)
    go (inr e) = absurd (cc)

stood_there : (k : Key) (tx u : TxId) (q q2 : List TxId) → ((k ≡ k) × (q2 ≡ queue_without tx q)) ⊎ (q2 ≡ q) → In u q2 → In u q
stood_there k tx u q q2 (inl e) s = (in_left tx u q (rw e.1 at s)).0
stood_there k tx u q q2 (inr e) s = rw e at s

lock_from : (m : PartMap) (v : View) (a b : NodeId) (y : Message) (t : TxId) (k : Key) → Fact m v a b y →
    once y ≡ Some (ALock t k) → t.node ≡ a
lock_from m v a b (msg.Lock u top l) t k f e = let same : u ≡ t = cc in subst (λ (x : TxId). x.node ≡ a) same f.from
lock_from m v a b y t k f e = absurd (cc)

lock_ok_owns : (m : PartMap) (v : View) (a b : NodeId) (y : Message) (t : TxId) (k : Key) → Fact m v a b y →
    once y ≡ Some (ALockOk t k) → is_live v.entry t ≡ true → owner (v.queue a k) ≡ Some t
lock_ok_owns m v a b (msg.LockOk u l found) t k f e live =
    let same : u ≡ t = cc in
    let key : l ≡ k = cc in
    subst (λ (x : Key). owner (v.queue a x) ≡ Some t) key (subst (λ (x : TxId). owner (v.queue a l) ≡ Some x) same
    (f.owns (subst (λ (x : TxId). is_live v.entry x ≡ true) (sym same) live)))
lock_ok_owns m v a b y t k f e live = absurd (cc)

-- the owner of nothing is nobody
nobody : (q : List TxId) → owner q ≡ None → q ≡ []
nobody [] e = refl
nobody (x ∷ q) e = absurd (cc)

module _ (m : PartMap) (around : Around) where
  -- a message is sent
  pub sent_good : (s : NodeState) (to : NodeId) (x : Message) → Fact m (view around s) s.me to x →
      IsNew (view around s).entry x ((view around s).flight s.me to) → Good m around s → Good m around (with_out s to x)
  sent_good s to x fact fresh i = record {
    locks = push_keeps m (view around s) (view around (with_out s to x)).flight s.me to x (sent_written around s to x) fact
        fresh i.locks;
    up = i.up;
    installed = i.installed;
    seen = i.seen;
    shares_up = i.shares_up;
  }

  -- what is noted is not looked at
  pub noting_good : (s : NodeState) (r : _) → Good m around s → Good m around (with_note s r)
  noting_good s r i = record { locks = i.locks; up = i.up; installed = i.installed; seen = i.seen; shares_up = i.shares_up }

  pub own_queue : (s : NodeState) (k : Key) → (view around s).queue s.me k ≡ queue_in s.queues k
  own_queue s k = ap (λ f. f k) (of_node_me s.me (queue_in s.queues) (queue_in (around.others s.me).queues))

  ascending_with : (qs : _) (k : Key) (q : List TxId) → IsAscending key_cmp qs →
      IsAscending key_cmp (Rattle.part_model.specs.Queues.with_queue_in qs k q)
  ascending_with qs k [] up = ascending.ascending_without key_cmp key_total qs k up
  ascending_with qs k (t ∷ q) up = ascending.ascending_put key_cmp key_total qs k (t ∷ q) up

  pub leaves_good : (s : NodeState) (tx : TxId) (k : Key) → is_live (view around s).entry tx ≡ false → Good m around s →
      Good m around (after_leave s tx k)
  leaves_good s tx k over i = record {
    locks = leave_keeps m (view around s) (view around (after_leave s tx k)).queue s.me k tx
        (subst (λ q. Wrote (view around s).queue (view around (after_leave s tx k)).queue s.me k (queue_without tx q))
        (sym (own_queue s k))
        (wrote_here s.me (queue_in s.queues) (queue_in (after_leave s tx k).queues) (λ n. queue_in (around.others n).queues) k
        (queue_without tx (queue_in s.queues k)) (queue_written s.queues k (queue_without tx (queue_in s.queues k)) i.up)))
        over i.locks;
    up = ascending_with s.queues k (queue_without tx (queue_in s.queues k)) i.up;
    installed = i.installed;
    seen = i.seen;
    shares_up = i.shares_up;
  }

  -- the next owner is told
  pub grants_good : (s : NodeState) (to : NodeId) (tx : TxId) (top : TopVer) (k : Key) →
      IsNamed ((view around s).session_state tx.node tx.session) tx → tx.node ≡ to → primary_of m k ≡ Some s.me
      → (is_live (view around s).entry tx ≡ true →
      WaitsOn ((view around s).entry tx.node tx) ((view around s).session_state tx.node tx.session) k)
      → (is_live (view around s).entry tx ≡ true → owner (queue_in s.queues k) ≡ Some tx)
      → IsNew (view around s).entry (msg.LockOk tx k (found_at s k)) ((view around s).flight s.me to)
      → Good m around s → Good m around (after_grant s to tx top k)
  grants_good s to tx top k named is home waiting owns fresh i =
      sent_good (with_note s (note.Grant tx top k)) to (msg.LockOk tx k (found_at s k))
      (record { named = named; to = is; from = home; waits_on = waiting; owns = λ live. ap owner (own_queue s k) ∙ owns live })
      fresh
      (noting_good s (note.Grant tx top k) i)

  -- a decided transaction leaves a key's queue, and the next owner is told
  pub released_good : (s : NodeState) (tx : TxId) (k : Key) → is_live (view around s).entry tx ≡ false → Good m around s →
      Good m around (after_release s tx k)
  released_good s tx k over i = pass (is_owner tx (owner_at s k)) (owner_at after k) refl refl
    where
      after : NodeState
      after = with_note (after_leave s tx k) (note.Drop tx k)

      left : Good m around after
      left = noting_good (after_leave s tx k) (note.Drop tx k) (leaves_good s tx k over i)

      pass : (b : Bool) (next : Option TxId) → is_owner tx (owner_at s k) ≡ b → owner_at after k ≡ next →
          Good m around (after_pass_on after k b next)
      pass true None own is = left
      pass false next own is = left
      pass true (Some next) own is =
          let told = next_fact m (view around s) s.me k tx next over (ap owner (own_queue s k)
          ∙ is_owner_is tx (owner_at s k) own)
          (rw (own_queue s k) (stood_there k tx next (queue_in s.queues k) (queue_in after.queues k)
          (queue_written s.queues k (queue_without tx (queue_in s.queues k)) i.up k)
          (owner_in_queue (queue_in after.queues k) next is))) i.locks in
          grants_good after next.node next (installed_top after) k told.0 refl told.1 told.2 (λ live. is)
          (told.3 (found_at after k)) left

  -- only queues, the outbox and what is noted change
  passed_on_entry : (s : NodeState) (k : Key) (b : Bool) (next : Option TxId) → (view around (after_pass_on s k b next)).entry
      ≡ (view around s).entry
  passed_on_entry s k true (Some u) = refl
  passed_on_entry s k true None = refl
  passed_on_entry s k false next = refl

  pub released_entry : (s : NodeState) (tx : TxId) (k : Key) → (view around (after_release s tx k)).entry
      ≡ (view around s).entry
  released_entry s tx k = let after = with_note (after_leave s tx k) (note.Drop tx k) in
      passed_on_entry after k (is_owner tx (owner_at s k)) (owner_at after k)

  pub released_all_good : (s : NodeState) (tx : TxId) (ks : List Key) → is_live (view around s).entry tx ≡ false →
      Good m around s → Good m around (after_release_each s tx ks)
  released_all_good s tx [] over i = i
  released_all_good s tx (k ∷ ks) over i =
      released_all_good (after_release s tx k) tx ks (ap (λ f. undecided (f tx.node tx)) (released_entry s tx k) ∙ over)
      (released_good s tx k over i)

  -- a transaction stands at the end of a queue, as its Lock asks
  pub enqueued_good : (s : NodeState) (tx : TxId) (k : Key) → IsNamed ((view around s).session_state tx.node tx.session) tx →
      primary_of m k ≡ Some s.me → IsTouched ((view around s).entry tx.node tx) k
      → (is_live (view around s).entry tx ≡ true → (owner (queue_in s.queues k ++ tx ∷ []) ≡ Some tx)
      ⊎ WaitsOn ((view around s).entry tx.node tx) ((view around s).session_state tx.node tx.session) k)
      → ((a : NodeId) (y : Message) → is_live (view around s).entry tx ≡ true → In y ((view around s).flight a s.me) →
      once y ≡ Some (ALock tx k) → ⊥)
      → Good m around s → Good m around (with_queued s tx k)
  enqueued_good s tx k named home touched either none i = record {
    locks = enqueue_keeps m (view around s) (view around (with_queued s tx k)).queue s.me k tx
        (subst (λ q. Wrote (view around s).queue (view around (with_queued s tx k)).queue s.me k (q ++ tx ∷ []))
        (sym (own_queue s k))
        (wrote_here s.me (queue_in s.queues) (queue_in (with_queued s tx k).queues) (λ n. queue_in (around.others n).queues) k
        (queue_in s.queues k ++ tx ∷ []) (queue_written s.queues k (queue_in s.queues k ++ tx ∷ []) i.up)))
        named home touched (λ live. rw (own_queue s k) (either live)) none i.locks;
    up = ascending_with s.queues k (queue_in s.queues k ++ tx ∷ []) i.up;
    installed = i.installed;
    seen = i.seen;
    shares_up = i.shares_up;
  }

  -- Lock
  pub lock_row_good : (s : NodeState) (from : NodeId) (tx : TxId) (top : TopVer) (k : Key) →
      InHand m (view around s) s.me (Some (record { from = from; message = msg.Lock tx top k })) → Good m around s →
      Good m around (after_lock s from tx top k)
  lock_row_good s from tx top k hand i = go (owner_at s k) refl
    where
      placed_there : Good m around (with_queued s tx k)
      placed_there = enqueued_good s tx k hand.0.named hand.0.to hand.0.touched (λ live. inr (hand.0.waits_on live))
          (λ a y live there of_y. hand.1 y (ALock tx k) live (subst (λ z. In y ((view around s).flight z s.me))
          (sym (lock_from m (view around s) a s.me y tx k (i.locks.facts a s.me y there) of_y) ∙ hand.0.from) there) refl
          of_y) i

      told : (y : Message) (g : Tag) → is_live (view around s).entry (tagged g) ≡ true →
          In y ((view around s).flight s.me from) → Some (ALockOk tx k) ≡ Some g → once y ≡ Some g → ⊥
      told y g live there of_x of_y =
          let same : g ≡ ALockOk tx k = cc in
          let alive : is_live (view around s).entry tx ≡ true =
          subst (λ (z : Tag). is_live (view around s).entry (tagged z) ≡ true) same live in
          hand.0.unqueued alive (owner_in_queue ((view around s).queue s.me k) tx
          (lock_ok_owns m (view around s) s.me from y tx k (i.locks.facts s.me from y there) (of_y ∙ sym of_x) alive))

      go : (o : Option TxId) → owner_at s k ≡ o → Good m around (after_lock_behind s from tx top k o)
      go None is = grants_good (with_queued s tx k) from tx top k hand.0.named hand.0.from hand.0.to hand.0.waits_on
          (λ live. ap owner (queue_tied s.queues tx k k (tied_itself key_total k)
          ∙ ap (λ q. q ++ tx ∷ []) (nobody (queue_in s.queues k) is))) (λ y g live there of_x of_y.
          told y g live there of_x of_y) placed_there
      go (Some o) is = noting_good (with_queued s tx k) (note.Queue tx k o) placed_there
