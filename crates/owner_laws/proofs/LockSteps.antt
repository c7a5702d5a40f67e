-- What is true of locks stays true where a queue, a link, a transaction or a session changes.
use Rattle.std.proofs.Common.{◌≡◌, ◌≢◌, ◌⊎◌, inl, inr, List, [], ◌∷◌, ◌++◌, true, false, Option, Some, None, refl, ap, sym, subst, ◌∙◌, ℕ}
use Rattle.part_model.specs.Copies.{Found}
use Rattle.part_model.specs.Queues.{queue_without}
use Rattle.ignite_types.specs.Names.{key_cmp}
use Rattle.ignite_types.specs.Placement.{primary_of}
use Rattle.ignite_types.specs.declared.message.Message.{Message}
use Rattle.ignite_types.specs.declared.names.NodeId.{NodeId}
use Rattle.ignite_types.specs.declared.names.TxId.{TxId}
use Rattle.ignite_types.specs.declared.placement.PartMap.{PartMap}
use Rattle.ignite_types.specs.declared.text.Key.{Key}
use Rattle.node_state.specs.declared.near.TxEntry.{TxEntry}
use Rattle.node_state.specs.declared.primary.OwnShare.{OwnShare}
use Rattle.node_state.specs.declared.session.SessionState.{SessionState}
use Rattle.node_state.specs.declared.near.TxState.TheVariants as state
use Rattle.ordered_set.specs.Members.{has}
use Rattle.ignite_types.specs.declared.message.Message.TheVariants as msg
use Rattle.owner_laws.specs.LockViews.{View}
use Rattle.owner_laws.specs.LockFacts.{ALock, ALockOk, Apart, Each, Entries, Fact, FinishFact, In, IsNamed, IsNew, IsTouched, KeyFact, KeysFact, LockFact, LockOkFact, Locks, PlaceFact, PrepareFact, ShareFact, Tag, WaitsOn, is_live, is_locking, once, owner, tagged, undecided}
use Rattle.transaction_laws.specs.StarterStates.{is_open}
use Rattle.owner_laws.proofs.Lists.{In-push, Wrote, apart_fewer, apart_push, each_push, in_left, owner_in_queue, owner_left, owner_push, wrote_elim}

-- the lock is held, and nothing says so any more
pub record Settled (m : PartMap) (v : View) (t : TxId) (k : Key) : Type 0 where
  pub owns : (n : NodeId) → primary_of m k ≡ Some n → owner (v.queue n k) ≡ Some t
  pub untold : (a b : NodeId) (y : Message) → In y (v.flight a b) → once y ≡ Some (ALockOk t k) → ⊥

module _ (m : PartMap) where
  -- A message is sent.

  fact_share : (v : View) (share : NodeId → TxId → Option OwnShare) (a b : NodeId) (x : Message) → Fact m v a b x →
      Fact m (record v { share = share }) a b x
  fact_share v share a b (msg.Lock t top k) f = f
  fact_share v share a b (msg.LockOk t k found) f = f
  fact_share v share a b (msg.Prepare t top x shares wanted writes) f = f
  fact_share v share a b (msg.Finish t commit) f = f
  fact_share v share a b x f = f

  pub fact_link : (v : View) (flight : NodeId → NodeId → List Message) (a b : NodeId) (x : Message) → Fact m v a b x →
      Fact m (record v { flight = flight }) a b x
  fact_link v flight a b (msg.Lock t top k) f = f
  fact_link v flight a b (msg.LockOk t k found) f = f
  fact_link v flight a b (msg.Prepare t top x shares wanted writes) f = f
  fact_link v flight a b (msg.Finish t commit) f = f
  fact_link v flight a b x f = f

  pub push_keeps : (v : View) (flight : NodeId → NodeId → List Message) (a b : NodeId) (x : Message) →
      Wrote v.flight flight a b (v.flight a b ++ x ∷ []) → Fact m v a b x → IsNew v.entry x (v.flight a b)
      → Locks m v → Locks m (record v { flight = flight })
  push_keeps v flight a b x w fact fresh i = record {
    facts = λ c d y s. fact_link v flight c d y (wrote_elim (λ c d ms. Each (Fact m v c d) ms) v.flight flight a b
        (v.flight a b ++ x ∷ []) w (each_push (Fact m v a b) (v.flight a b) x (i.facts a b) fact) i.facts c d y s);
    apart = wrote_elim (λ c d ms. Apart v.entry ms) v.flight flight a b (v.flight a b ++ x ∷ []) w
        (apart_push v.entry (v.flight a b) x (i.apart a b) fresh) i.apart;
    places = i.places;
    shares = i.shares;
    keys = i.keys;
  }

  -- A transaction stands at the end of a queue.

  owner_pushed : (v : View) (queue : NodeId → Key → List TxId) (n : NodeId) (k : Key) (t : TxId) →
      Wrote v.queue queue n k (v.queue n k ++ t ∷ []) → (c : NodeId) (l : Key) (u : TxId) → owner (v.queue c l) ≡ Some u →
      owner (queue c l) ≡ Some u
  owner_pushed v queue n k t w c l u =
      wrote_elim (λ c l q. owner (v.queue c l) ≡ Some u → owner q ≡ Some u) v.queue queue n k (v.queue n k ++ t ∷ []) w
      (owner_push (v.queue n k) t u) (λ c l e. e) c l

  -- who stands there now stood there, or is this one
  stood : (v : View) (queue : NodeId → Key → List TxId) (n : NodeId) (k : Key) (t : TxId) →
      Wrote v.queue queue n k (v.queue n k ++ t ∷ []) → (c : NodeId) (l : Key) (u : TxId) → In u (queue c l) →
      In u (v.queue c l) ⊎ ((c ≡ n) × (l ≡ k) × (u ≡ t))
  stood v queue n k t w c l u =
      wrote_elim (λ c l q. In u q → In u (v.queue c l) ⊎ ((c ≡ n) × (l ≡ k) × (u ≡ t))) v.queue queue n k
      (v.queue n k ++ t ∷ []) w
      (λ s. go (In-push u t (v.queue n k) s))
      (λ c l s. inl s) c l
    where
      go : In u (v.queue n k) ⊎ (u ≡ t) → In u (v.queue n k) ⊎ ((n ≡ n) × (k ≡ k) × (u ≡ t))
      go (inl s) = inl s
      go (inr e) = inr (refl, refl, e)

  fact_queued : (v : View) (queue : NodeId → Key → List TxId) (n : NodeId) (k : Key) (t : TxId) →
      Wrote v.queue queue n k (v.queue n k ++ t ∷ [])
      → (a b : NodeId) (x : Message) → (is_live v.entry t ≡ true → once x ≡ Some (ALock t k) → b ≡ n → ⊥) → Fact m v a b x →
      Fact m (record v { queue = queue }) a b x
  fact_queued v queue n k t w a b (msg.Lock u top l) none f = record {
    named = f.named;
    from = f.from;
    to = f.to;
    touched = f.touched;
    waits_on = f.waits_on;
    unqueued = λ live s. go live (stood v queue n k t w b l u s);
  }
    where
      go : is_live v.entry u ≡ true → In u (v.queue b l) ⊎ ((b ≡ n) × (l ≡ k) × (u ≡ t)) → ⊥
      go live (inl s) = f.unqueued live s
      go live (inr e) = none (subst (λ (z : TxId). is_live v.entry z ≡ true) e.2 live) (λ j. Some (ALock (e.2 j) (e.1 j))) e.0
  fact_queued v queue n k t w a b (msg.LockOk u l found) none f = record {
    named = f.named;
    to = f.to;
    from = f.from;
    waits_on = f.waits_on;
    owns = λ live. owner_pushed v queue n k t w a l u (f.owns live);
  }
  fact_queued v queue n k t w a b x none f = f

  key_owned : (e : TxEntry) (d : Option SessionState) (q q2 : List TxId) (t : TxId) (k : Key) →
      (owner q ≡ Some t → owner q2 ≡ Some t) → KeyFact e d q t k → KeyFact e d q2 t k
  key_owned e d q q2 t k still (inl owns) = inl (still owns)
  key_owned e d q q2 t k still (inr waiting) = inr waiting

  pub enqueue_keeps : (v : View) (queue : NodeId → Key → List TxId) (n : NodeId) (k : Key) (t : TxId) →
      Wrote v.queue queue n k (v.queue n k ++ t ∷ [])
      → IsNamed (v.session_state t.node t.session) t → primary_of m k ≡ Some n → IsTouched (v.entry t.node t) k
      → (is_live v.entry t ≡ true → (owner (v.queue n k ++ t ∷ []) ≡ Some t)
      ⊎ WaitsOn (v.entry t.node t) (v.session_state t.node t.session) k)
      → ((a : NodeId) (y : Message) → is_live v.entry t ≡ true → In y (v.flight a n) → once y ≡ Some (ALock t k) → ⊥)
      → Locks m v → Locks m (record v { queue = queue })
  enqueue_keeps v queue n k t w named home touched either none i = record {
    facts = λ a b y s. fact_queued v queue n k t w a b y
        (λ live e same. none a y live (subst (λ (c : NodeId). In y (v.flight a c)) same s) e) (i.facts a b y s);
    apart = i.apart;
    places = wrote_elim (λ c l q. (u : TxId) → In u q →
        PlaceFact m (v.entry u.node u) (v.session_state u.node u.session) q c l u) v.queue queue n k (v.queue n k ++ t ∷ []) w
        (λ u s. go u (In-push u t (v.queue n k) s)) i.places;
    shares = i.shares;
    keys = λ u e there active locks l c has_it first. key_owned e (v.session_state u.node u.session) (v.queue c l)
        (queue c l) u l (owner_pushed v queue n k t w c l u) (i.keys u e there active locks l c has_it first);
  }
    where
      still : (u : TxId) → (owner (v.queue n k) ≡ Some u) ⊎ WaitsOn (v.entry u.node u) (v.session_state u.node u.session) k →
          (owner (v.queue n k ++ t ∷ []) ≡ Some u) ⊎ WaitsOn (v.entry u.node u) (v.session_state u.node u.session) k
      still u (inl owns) = inl (owner_push (v.queue n k) t u owns)
      still u (inr waiting) = inr waiting

      go : (u : TxId) → In u (v.queue n k) ⊎ (u ≡ t) → PlaceFact m (v.entry u.node u) (v.session_state u.node u.session)
          (v.queue n k ++ t ∷ []) n k u
      go u (inl s) = let old = i.places n k u s in record {
        named = old.named;
        here = old.here;
        touched = old.touched;
        either = λ live. still u (old.either live);
      }
      go u (inr e) = subst (λ (x : TxId). PlaceFact m (v.entry x.node x) (v.session_state x.node x.session)
          (v.queue n k ++ t ∷ []) n k x) (sym e) (record { named = named; here = home; touched = touched; either = either })

  -- A decided transaction leaves a queue.

  owner_passed : (v : View) (queue : NodeId → Key → List TxId) (n : NodeId) (k : Key) (t : TxId) →
      Wrote v.queue queue n k (queue_without t (v.queue n k)) → (c : NodeId) (l : Key) (u : TxId) → u ≢ t →
      owner (v.queue c l) ≡ Some u → owner (queue c l) ≡ Some u
  owner_passed v queue n k t w c l u ne =
      wrote_elim (λ c l q. owner (v.queue c l) ≡ Some u → owner q ≡ Some u) v.queue queue n k (queue_without t (v.queue n k))
      w (λ e. owner_left t u (v.queue n k) e ne) (λ c l e. e) c l

  stays_in : (v : View) (queue : NodeId → Key → List TxId) (n : NodeId) (k : Key) (t : TxId) →
      Wrote v.queue queue n k (queue_without t (v.queue n k)) → (c : NodeId) (l : Key) (u : TxId) → In u (queue c l) →
      In u (v.queue c l)
  stays_in v queue n k t w c l u = wrote_elim (λ c l q. In u q → In u (v.queue c l)) v.queue queue n k
      (queue_without t (v.queue n k)) w (λ s. (in_left t u (v.queue n k) s).0) (λ c l s. s) c l

  other_than : (v : View) (t u : TxId) → is_live v.entry t ≡ false → is_live v.entry u ≡ true → u ≢ t
  other_than v t u over live e = absurd (cc)

  fact_left : (v : View) (queue : NodeId → Key → List TxId) (n : NodeId) (k : Key) (t : TxId) →
      Wrote v.queue queue n k (queue_without t (v.queue n k)) → is_live v.entry t ≡ false
      → (a b : NodeId) (x : Message) → Fact m v a b x → Fact m (record v { queue = queue }) a b x
  fact_left v queue n k t w over a b (msg.Lock u top l) f = record {
    named = f.named;
    from = f.from;
    to = f.to;
    touched =
        f.touched;
    waits_on = f.waits_on;
    unqueued = λ live s. f.unqueued live (stays_in v queue n k t w b l u s);
  }
  fact_left v queue n k t w over a b (msg.LockOk u l found) f = record {
    named = f.named;
    to = f.to;
    from = f.from;
    waits_on = f.waits_on;
    owns = λ live. owner_passed v queue n k t w a l u (other_than v t u over live) (f.owns live);
  }
  fact_left v queue n k t w over a b x f = f

  pub leave_keeps : (v : View) (queue : NodeId → Key → List TxId) (n : NodeId) (k : Key) (t : TxId) →
      Wrote v.queue queue n k (queue_without t (v.queue n k)) → is_live v.entry t ≡ false → Locks m v →
      Locks m (record v { queue = queue })
  leave_keeps v queue n k t w over i = record {
    facts = λ a b y s. fact_left v queue n k t w over a b y (i.facts a b y s);
    apart = i.apart;
    places = λ c l u s. let old = i.places c l u (stays_in v queue n k t w c l u s) in
        record {
          named = old.named;
          here = old.here;
          touched = old.touched;
          either =
              λ live. still c l u live (old.either live);
        };
    shares = i.shares;
    keys = λ u e there active locks l c has_it first.
        key_owned e (v.session_state u.node u.session) (v.queue c l) (queue c l) u l
        (owner_passed v queue n k t w c l u (other_than v t u over (ap undecided there ∙ active)))
        (i.keys u e there active locks l c has_it first);
  }
    where
      still : (c : NodeId) (l : Key) (u : TxId) → is_live v.entry u ≡ true → (owner (v.queue c l) ≡ Some u)
          ⊎ WaitsOn (v.entry u.node u) (v.session_state u.node u.session) l → (owner (queue c l) ≡ Some u)
          ⊎ WaitsOn (v.entry u.node u) (v.session_state u.node u.session) l
      still c l u live (inl owns) = inl (owner_passed v queue n k t w c l u (other_than v t u over live) owns)
      still c l u live (inr waiting) = inr waiting

  -- what the next owner is told: it waited, and was told nothing before
  pub next_fact : (v : View) (n : NodeId) (k : Key) (t u : TxId) → is_live v.entry t ≡ false → owner (v.queue n k) ≡ Some t →
      In u (v.queue n k) → Locks m v
      → IsNamed (v.session_state u.node u.session) u × (primary_of m k ≡ Some n)
      × (is_live v.entry u ≡ true → WaitsOn (v.entry u.node u) (v.session_state u.node u.session) k)
      × ((found : Found) → IsNew v.entry (msg.LockOk u k found) (v.flight n u.node))
  next_fact v n k t u over first s i = (
    (i.places n k u s).named,
    (i.places n k u s).here,
    λ live. waits_yet live ((i.places n k u s).either live),
    λ found y g live s2 of_x of_y. told y g live (i.facts n u.node y s2) of_x of_y,
  )
    where
      waits_yet : is_live v.entry u ≡ true → (owner (v.queue n k) ≡ Some u)
          ⊎ WaitsOn (v.entry u.node u) (v.session_state u.node u.session) k →
          WaitsOn (v.entry u.node u) (v.session_state u.node u.session) k
      waits_yet live (inl owns) = absurd (other_than v t u over live (cc))
      waits_yet live (inr waiting) = waiting

      told : (y : Message) (g : Tag) → is_live v.entry (tagged g) ≡ true → Fact m v n u.node y → Some (ALockOk u k) ≡ Some g →
          once y ≡ Some g → ⊥
      told (msg.LockOk x l found) g live f of_x of_y =
          let same_tx : x ≡ u = cc in
          let same_key : l ≡ k = cc in
          let same_tag : g ≡ ALockOk u k = cc in
          let alive : is_live v.entry u ≡ true = subst (λ (z : Tag). is_live v.entry (tagged z) ≡ true) same_tag live in
          let owned : owner (v.queue n l) ≡ Some x =
          f.owns (subst (λ (z : TxId). is_live v.entry z ≡ true) (sym same_tx) alive) in
          let owned_here : owner (v.queue n k) ≡ Some x = subst (λ (z : Key). owner (v.queue n z) ≡ Some x) same_key owned in
          absurd (other_than v t u over alive (cc))
      told y g live f of_x of_y = absurd (cc)

  -- A transaction's entry changes at its starter.

  abbrev Home : View → TxId → Option TxEntry → Key → Type 0
  Home v t e k = WaitsOn e (v.session_state t.node t.session) k

  -- the entry goes on, undecided, and waits as it did but where its lock is held
  pub record Follows (v : View) (t : TxId) (z y : TxEntry) : Type 0 where
    pub was : v.entry t.node t ≡ Some z
    pub opened : is_open z.state ≡ true
    pub same_mode : y.mode ≡ z.mode
    pub keys : (k : Key) → has key_cmp z.keys k ≡ true → has key_cmp y.keys k ≡ true
    pub preparing : z.state ≡ state.Preparing → y.state ≡ state.Preparing
    pub waits_still : (k : Key) → Home v t (Some z) k → Home v t (Some y) k ⊎ Settled m v t k

  abbrev pub Steady : View → TxId → Option TxEntry → Type 0
  Steady v t e = (y : TxEntry) → e ≡ Some y → is_open y.state ≡ true → (z : TxEntry) × Follows v t z y

  steady_same : (v : View) (t : TxId) → Steady v t (v.entry t.node t)
  steady_same v t y is open_y = (
    y,
    record {
      was = is;
      opened = open_y;
      same_mode = refl;
      keys = λ k h. h;
      preparing = λ p. p;
      waits_still =
          λ k h. inl h;
    },
  )

  steady_all : (v : View) (entry : Entries) (t : TxId) (e : Option TxEntry) → Wrote v.entry entry t.node t e → Steady v t e →
      (u : TxId) → Steady v u (entry u.node u)
  steady_all v entry t e w h u = go (w u.node u)
    where
      go : ((u.node ≡ t.node) × (u ≡ t) × (entry u.node u ≡ e)) ⊎ (entry u.node u ≡ v.entry u.node u) →
          Steady v u (entry u.node u)
      go (inl is) = subst (λ z. Steady v u z) (sym is.2) (subst (λ z. Steady v z e) (sym is.1) h)
      go (inr is) = subst (λ z. Steady v u z) (sym is) (steady_same v u)

  steady_live : (v : View) (t : TxId) (e : Option TxEntry) → Steady v t e → undecided e ≡ true → is_live v.entry t ≡ true
  steady_live v t None h live = absurd (cc)
  steady_live v t (Some y) h live = let f = (h y refl live).1 in ap undecided f.was ∙ f.opened

  steady_waits : (v : View) (t : TxId) (e : Option TxEntry) (k : Key) → Steady v t e → undecided e ≡ true →
      Home v t (v.entry t.node t) k → Home v t e k ⊎ Settled m v t k
  steady_waits v t None k h live waiting = absurd (cc)
  steady_waits v t (Some y) k h live waiting = let f = (h y refl live).1 in
      f.waits_still k (subst (λ z. Home v t z k) f.was waiting)

  steady_touched : (v : View) (t : TxId) (e : Option TxEntry) (k : Key) → Steady v t e → IsTouched (v.entry t.node t) k →
      IsTouched e k
  steady_touched v t e k h touched y is open_y locks = let z = h y is open_y in
      z.1.keys k (touched z.0 z.1.was z.1.opened (ap is_locking (sym z.1.same_mode) ∙ locks))

  steady_over : (v : View) (t : TxId) (e : Option TxEntry) → Steady v t e → is_live v.entry t ≡ false → undecided e ≡ false
  steady_over v t e h over =
      elim (undecided e) as (λ b. undecided e ≡ b → b ≡ false) [
        | true ↦ λ live. let was = steady_live v t e h live in absurd (cc)
        | false ↦ λ gone. refl
      ] refl

  fact_steady : (v : View) (entry : Entries) → ((u : TxId) → Steady v u (entry u.node u)) → (a b : NodeId) (x : Message) →
      In x (v.flight a b) → Fact m v a b x → Fact m (record v { entry = entry }) a b x
  fact_steady v entry h a b (msg.Lock u top l) s f = record {
    named = f.named;
    from = f.from;
    to = f.to;
    touched = steady_touched v u (entry u.node u) l (h u) f.touched;
    waits_on = λ live. go live (steady_waits v u (entry u.node u) l (h u) live
        (f.waits_on (steady_live v u (entry u.node u) (h u) live)));
    unqueued = λ live. f.unqueued (steady_live v u (entry u.node u) (h u) live);
  }
    where
      go : undecided (entry u.node u) ≡ true → Home v u (entry u.node u) l ⊎ Settled m v u l → Home v u (entry u.node u) l
      go live (inl waiting) = waiting
      go live (inr settled) = absurd (f.unqueued (steady_live v u (entry u.node u) (h u) live)
          (owner_in_queue (v.queue b l) u (settled.owns b f.to)))
  fact_steady v entry h a b (msg.LockOk u l found) s f = record {
    named = f.named;
    to = f.to;
    from = f.from;
    waits_on = λ live. go (steady_waits v u (entry u.node u) l (h u) live
        (f.waits_on (steady_live v u (entry u.node u) (h u) live)));
    owns = λ live. f.owns (steady_live v u (entry u.node u) (h u) live);
  }
    where
      go : Home v u (entry u.node u) l ⊎ Settled m v u l → Home v u (entry u.node u) l
      go (inl waiting) = waiting
      go (inr settled) = absurd (settled.untold a b (msg.LockOk u l found) s refl)
  fact_steady v entry h a b (msg.Prepare u top x shares wanted writes) s f = record {
    named = f.named;
    preparing = λ y is open_y. let z = h u y is open_y in let old = f.preparing z.0 z.1.was z.1.opened in
        (z.1.preparing old.0, z.1.same_mode ∙ old.1);
    here = f.here;
  }
  fact_steady v entry h a b (msg.Finish u commit) s f =
      record { named = f.named; over = steady_over v u (entry u.node u) (h u) f.over }
  fact_steady v entry h a b x s f = f

  pub entry_keeps : (v : View) (entry : Entries) (t : TxId) (x : Option TxEntry) → Wrote v.entry entry t.node t x →
      Steady v t x → ((e : TxEntry) → x ≡ Some e → KeysFact m v t e) → Locks m v → Locks m (record v { entry = entry })
  entry_keeps v entry t x w h own i =
      let all = steady_all v entry t x w h in
      record {
        facts = λ a b y s. fact_steady v entry all a b y s (i.facts a b y s);
        apart = λ a b. apart_fewer v.entry entry (v.flight a b) (λ u. steady_live v u (entry u.node u) (all u)) (i.apart a b);
        places = λ n k u s. let old = i.places n k u s in record {
          named = old.named;
          here = old.here;
          touched = steady_touched v u (entry u.node u) k (all u) old.touched;
          either = λ live. go n k u old.here (steady_waits v u (entry u.node u) k (all u) live)
              (old.either (steady_live v u (entry u.node u) (all u) live));
        };
        shares = λ n u. share u (v.share n u) (all u) (i.shares n u);
        keys = λ u e there.
            wrote_elim (λ c u x. c ≡ u.node → (e : TxEntry) → x ≡ Some e → KeysFact m v u e) v.entry entry t.node t x w
            (λ same. own) (λ c u same e there. i.keys u e (subst (λ z. v.entry z u ≡ Some e) same there))
            u.node u refl e there;
      }
    where
      share : (u : TxId) (s : Option OwnShare) → Steady v u (entry u.node u) →
          ShareFact (v.entry u.node u) (v.session_state u.node u.session) u s →
          ShareFact (entry u.node u) (v.session_state u.node u.session) u s
      share u None h f = tt
      share u (Some s) h f = (f.0, λ asked. steady_over v u (entry u.node u) h (f.1 asked))

      go : (n : NodeId) (k : Key) (u : TxId) → primary_of m k ≡ Some n →
          (Home v u (v.entry u.node u) k → Home v u (entry u.node u) k ⊎ Settled m v u k)
          → (owner (v.queue n k) ≡ Some u) ⊎ Home v u (v.entry u.node u) k → (owner (v.queue n k) ≡ Some u)
          ⊎ Home v u (entry u.node u) k
      go n k u here on (inl owns) = inl owns
      go n k u here on (inr waiting) = last (on waiting)
        where
          last : Home v u (entry u.node u) k ⊎ Settled m v u k → (owner (v.queue n k) ≡ Some u) ⊎ Home v u (entry u.node u) k
          last (inl waiting) = inr waiting
          last (inr settled) = inl (settled.owns n here)

  -- An own share changes.

  pub share_keeps : (v : View) (share : NodeId → TxId → Option OwnShare) (n : NodeId) (t : TxId) (x : Option OwnShare) →
      Wrote v.share share n t x → ShareFact (v.entry t.node t) (v.session_state t.node t.session) t x → Locks m v →
      Locks m (record v { share = share })
  share_keeps v share n t x w fact i = record {
    facts = λ a b y s. fact_share v share a b y (i.facts a b y s);
    apart = i.apart;
    places = i.places;
    shares = wrote_elim (λ c u x. ShareFact (v.entry u.node u) (v.session_state u.node u.session) u x) v.share share n t x w
        fact i.shares;
    keys = i.keys;
  }

  -- A session's state changes, but not for a transaction that waits there.

  pub record Calm (v : View) (session_state : NodeId → ℕ → Option SessionState) : Type 0 where
    pub waiting : (t : TxId) (k : Key) → is_live v.entry t ≡ true →
        WaitsOn (v.entry t.node t) (v.session_state t.node t.session) k →
        WaitsOn (v.entry t.node t) (session_state t.node t.session) k
    pub named : (t : TxId) → IsNamed (v.session_state t.node t.session) t → IsNamed (session_state t.node t.session) t

  fact_calm : (v : View) (session_state : NodeId → ℕ → Option SessionState) → Calm v session_state →
      (a b : NodeId) (x : Message) → Fact m v a b x → Fact m (record v { session_state = session_state }) a b x
  fact_calm v session_state h a b (msg.Lock u top l) f = record {
    named = h.named u f.named;
    from = f.from;
    to = f.to;
    touched = f.touched;
    waits_on = λ live. h.waiting u l live (f.waits_on live);
    unqueued = f.unqueued;
  }
  fact_calm v session_state h a b (msg.LockOk u l found) f = record {
    named = h.named u f.named;
    to = f.to;
    from = f.from;
    waits_on = λ live. h.waiting u l live (f.waits_on live);
    owns = f.owns;
  }
  fact_calm v session_state h a b (msg.Prepare u top x shares wanted writes) f =
      record { named = h.named u f.named; preparing = f.preparing; here = f.here }
  fact_calm v session_state h a b (msg.Finish u commit) f = record { named = h.named u f.named; over = f.over }
  fact_calm v session_state h a b x f = f

  pub session_state_keeps : (v : View) (session_state : NodeId → ℕ → Option SessionState) → Calm v session_state → Locks m v →
      Locks m (record v { session_state = session_state })
  session_state_keeps v session_state h i = record {
    facts = λ a b y s. fact_calm v session_state h a b y (i.facts a b y s);
    apart = i.apart;
    places = λ n k u s. let old = i.places n k u s in record {
      named = h.named u old.named;
      here = old.here;
      touched =
          old.touched;
      either = λ live. go n k u live (old.either live);
    };
    shares = λ n u. share u (v.share n u) (i.shares n u);
    keys = λ u e there active locks k n has_it first.
        let live : is_live v.entry u ≡ true = ap undecided there ∙ active in
        key n k u e (subst (λ z. WaitsOn z (v.session_state u.node u.session) k →
        WaitsOn z (session_state u.node u.session) k) there (h.waiting u k live))
        (i.keys u e there active locks k n has_it first);
  }
    where
      share : (u : TxId) (s : Option OwnShare) → ShareFact (v.entry u.node u) (v.session_state u.node u.session) u s →
          ShareFact (v.entry u.node u) (session_state u.node u.session) u s
      share u None f = tt
      share u (Some s) f = (h.named u f.0, f.1)

      go : (n : NodeId) (k : Key) (u : TxId) → is_live v.entry u ≡ true → (owner (v.queue n k) ≡ Some u)
          ⊎ WaitsOn (v.entry u.node u) (v.session_state u.node u.session) k → (owner (v.queue n k) ≡ Some u)
          ⊎ WaitsOn (v.entry u.node u) (session_state u.node u.session) k
      go n k u live (inl owns) = inl owns
      go n k u live (inr waiting) = inr (h.waiting u k live waiting)

      key : (n : NodeId) (k : Key) (u : TxId) (e : TxEntry) → (WaitsOn (Some e) (v.session_state u.node u.session) k →
          WaitsOn (Some e) (session_state u.node u.session) k) →
          KeyFact e (v.session_state u.node u.session) (v.queue n k) u k →
          KeyFact e (session_state u.node u.session) (v.queue n k) u k
      key n k u e on (inl owns) = inl owns
      key n k u e on (inr waiting) = inr (on waiting)

  -- A transaction is opened: nothing speaks of it yet.

  abbrev SameWhereNamed : View → Entries → Type 0
  SameWhereNamed v entry = (u : TxId) → IsNamed (v.session_state u.node u.session) u → entry u.node u ≡ v.entry u.node u

  fact_open : (v : View) (entry : Entries) → SameWhereNamed v entry → (a b : NodeId) (x : Message) → Fact m v a b x →
      Fact m (record v { entry = entry }) a b x
  fact_open v entry h a b (msg.Lock u top l) f =
      subst (λ e. LockFact m e (v.session_state u.node u.session) (v.queue b l) a b u l) (sym (h u f.named)) f
  fact_open v entry h a b (msg.LockOk u l found) f =
      subst (λ e. LockOkFact m e (v.session_state u.node u.session) (v.queue a l) a b u l) (sym (h u f.named)) f
  fact_open v entry h a b (msg.Prepare u top x shares wanted writes) f =
      subst (λ e. PrepareFact m e (v.session_state u.node u.session) b u x wanted) (sym (h u f.named)) f
  fact_open v entry h a b (msg.Finish u commit) f = subst (λ e. FinishFact e (v.session_state u.node u.session) u)
      (sym (h u f.named)) f
  fact_open v entry h a b x f = f

  named_once : (v : View) (a b : NodeId) (y : Message) (g : Tag) → Fact m v a b y → once y ≡ Some g →
      IsNamed (v.session_state (tagged g).node (tagged g).session) (tagged g)
  named_once v a b (msg.Lock u top l) g f of_y = let same : ALock u l ≡ g = cc in
      subst (λ z. IsNamed (v.session_state (tagged z).node (tagged z).session) (tagged z)) same f.named
  named_once v a b (msg.LockOk u l found) g f of_y = let same : ALockOk u l ≡ g = cc in
      subst (λ z. IsNamed (v.session_state (tagged z).node (tagged z).session) (tagged z)) same f.named
  named_once v a b y g f of_y = absurd (cc)

  apart_open : (v : View) (entry : Entries) → SameWhereNamed v entry → (a b : NodeId) (ms : List Message) →
      Each (Fact m v a b) ms → Apart v.entry ms → Apart entry ms
  apart_open v entry h a b [] each apart = tt
  apart_open v entry h a b (x ∷ ms) each apart = (
    λ y g live s of_x of_y. apart.0 y g (ap undecided (sym (h (tagged g) (named_once v a b y g (each y (inr s)) of_y)))
        ∙ live) s of_x of_y,
    apart_open v entry h a b ms (λ y s. each y (inr s)) apart.1,
  )

  pub open_keeps : (v : View) (entry : Entries) (t : TxId) (e : TxEntry) → Wrote v.entry entry t.node t (Some e) →
      (IsNamed (v.session_state t.node t.session) t → ⊥) → e.keys ≡ [] → Locks m v → Locks m (record v { entry = entry })
  open_keeps v entry t e w unnamed keyless i = record {
    facts = λ a b y s. fact_open v entry same a b y (i.facts a b y s);
    apart = λ a b. apart_open v entry same a b (v.flight a b) (i.facts a b) (i.apart a b);
    places = λ n k u s. let old = i.places n k u s in
        subst (λ z. PlaceFact m z (v.session_state u.node u.session) (v.queue n k) n k u) (sym (same u old.named)) old;
    shares = λ n u. share u (v.share n u) (i.shares n u);
    keys = λ u x there.
        wrote_elim (λ c u z. c ≡ u.node → (x : TxEntry) → z ≡ Some x → KeysFact m v u x) v.entry entry t.node t (Some e) w
        (λ here x is active locks k n has_it first. absurd (let is_e : e ≡ x = cc in let none : x.keys ≡ [] =
        ap (λ (z : TxEntry). z.keys) (sym is_e) ∙ keyless in let gone : has key_cmp [] k ≡ true =
        subst (λ z. has key_cmp z k ≡ true) none has_it in cc))
        (λ c u same_node x there. i.keys u x (subst (λ z. v.entry z u ≡ Some x) same_node there))
        u.node u refl x there;
  }
    where
      same : SameWhereNamed v entry
      same u named = go (w u.node u)
        where
          go : ((u.node ≡ t.node) × (u ≡ t) × (entry u.node u ≡ Some e)) ⊎ (entry u.node u ≡ v.entry u.node u) →
              entry u.node u ≡ v.entry u.node u
          go (inl is) = absurd (unnamed (subst (λ z. IsNamed (v.session_state z.node z.session) z) is.1 named))
          go (inr is) = is

      share : (u : TxId) (s : Option OwnShare) → ShareFact (v.entry u.node u) (v.session_state u.node u.session) u s →
          ShareFact (entry u.node u) (v.session_state u.node u.session) u s
      share u None f = tt
      share u (Some s) f = (f.0, λ asked. ap undecided (same u f.0) ∙ f.1 asked)
