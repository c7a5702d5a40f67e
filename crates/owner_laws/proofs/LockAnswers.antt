-- Answers that a starter takes keep what is true of locks.
use Rattle.ignite_types.proofs.NameLaws.{tx_total}
use Rattle.act_rows.specs.Accesses.{is_pending_access, with_found_read, with_tx_state}
use Rattle.act_rows.specs.Steps.{entry_of, on_entry, session_state_of, with_entry}
use Rattle.part_model.specs.Copies.{Found}
use Rattle.ignite_types.specs.Names.{key_cmp, tx_cmp}
use Rattle.ignite_types.specs.declared.journal.Rec.{Rec}
use Rattle.ignite_types.specs.declared.message.Message.TheVariants as msg
use Rattle.ignite_types.specs.declared.names.NodeId.{NodeId}
use Rattle.ignite_types.specs.declared.names.TxId.{TxId}
use Rattle.ignite_types.specs.declared.scenario.Command.TheVariants as command
use Rattle.ignite_types.specs.declared.scenario.Command.{Command}
use Rattle.ignite_types.specs.declared.text.Key.{Key}
use Rattle.node_state.specs.declared.near.TxEntry.{TxEntry}
use Rattle.node_state.specs.declared.near.TxState.TheVariants as state
use Rattle.node_state.specs.declared.near.TxState.{TxState}
use Rattle.node_state.specs.Node.{NodeState}
use Rattle.node_state.specs.declared.session.SessionState.{SessionState}
use Rattle.ordered_set.specs.Members.{has}
use Rattle.ordered_table.proofs.Laws as laws
use Rattle.ordered_table.specs.Entries.{at}
use Rattle.std.proofs.Common.{◌≡◌, ◌⊎◌, inl, inr, List, Bool, true, false, Some, None, refl, ap, sym, subst, ◌∙◌}
use Rattle.std.specs.Option.{is_some}
use Rattle.transaction_laws.specs.StarterStates.{is_open}
use Rattle.transaction_laws.specs.StarterFacts.{StarterInAct}
use Rattle.act_rows.specs.Accesses.{after_keep_near, without_awaited, without_getting}
use Rattle.ignite_types.specs.Names.{node_cmp}
use Rattle.ignite_types.specs.Placement.{primary_of}
use Rattle.ignite_types.specs.declared.message.Message.{Message}
use Rattle.ignite_types.specs.declared.placement.PartMap.{PartMap}
use Rattle.ordered_set.specs.Members.{without_member}
use Rattle.owner_laws.specs.LockFacts.{ALockOk, Fact, In, InHand, KeyFact, WaitsOn, is_live, once, owner, undecided}
use Rattle.transaction_laws.specs.StarterStates.{waits_for_lock}
use Rattle.transaction_laws.specs.StarterKits.{AnswerKit, is_finishing}
use Rattle.scenes.specs.Rows.{MessageInHand}
use Rattle.owner_laws.specs.LockViews.{Around, View, view}
use Rattle.transaction_laws.proofs.StarterAnswers.{found_entry, keeps_found_is, near_kept_same}
use Rattle.owner_laws.proofs.LockKit.{Keeps, active_keys, calm_steady, entry_good, over_good, own_session_state, own_entry, starter}
use Rattle.owner_laws.proofs.LockRows.{Good}
use Rattle.transaction_laws.proofs.KeyNames.{pending_is}
use Rattle.owner_laws.proofs.LockSteps.{Follows, Settled}

found_same : (e : TxEntry) (key : Key) (found : Found) (c : Command) → ((found_entry e key found c).mode ≡ e.mode)
    × ((found_entry e key found c).keys ≡ e.keys) × ((found_entry e key found c).state ≡ e.state)
found_same e key found (command.Get k) = (refl, refl, refl)
found_same e key found (command.Add k amount) = (refl, refl, refl)
found_same e key found c = (refl, refl, refl)

module _ (past : List Rec) (m : PartMap) (around : Around) where
  abbrev pub Takes : MessageInHand → NodeState → NodeState → Type 0
  Takes h s s2 = Good m around s → InHand m (view around s) s.me (Some h) → Good m around s2

  -- an undecided transaction that waits for no lock changes in other things than its keys
  calm_good : (s : NodeState) (tx : TxId) (e e2 : TxEntry) → tx.node ≡ s.me → entry_of s tx ≡ Some e →
      is_open e.state ≡ true → waits_for_lock e.state ≡ false → e2.mode ≡ e.mode → e2.keys ≡ e.keys → e2.state ≡ e.state →
      Good m around s → Good m around (with_entry s tx e2)
  calm_good s tx e e2 own there opened calm mode keys st i =
      entry_good past m around s tx e2 own
      (calm_steady past m around s tx e e2 own there opened calm mode
      (λ k h. subst (λ z. has key_cmp z k ≡ true) (sym keys) h) (λ p. st ∙ p))
      (active_keys past m around s tx e e2 own there opened calm mode keys i) i

  found_good : (s : NodeState) (tx : TxId) (e : TxEntry) (key : Key) (found : Found) (c : Command) → tx.node ≡ s.me →
      entry_of s tx ≡ Some e → e.state ≡ state.Active → Good m around s → Good m around (with_found_read s tx key found c)
  found_good s tx e key found c own there active i = go (keeps_found_is s tx e key found c there)
    where
      go : (with_found_read s tx key found c ≡ with_entry s tx (found_entry e key found c))
          ⊎ ((with_found_read s tx key found c ≡ s) × (found_entry e key found c ≡ e)) →
          Good m around (with_found_read s tx key found c)
      go (inl is) = let same = found_same e key found c in
          subst (Good m around) (sym is) (calm_good s tx e (found_entry e key found c) own there (ap is_open active)
          (ap waits_for_lock active) same.0 same.1 same.2 i)
      go (inr is) = subst (Good m around) (sym is.0) i

  -- LockOk: the transaction owns the key, and no other message says so
  lock_ok_good : (s : NodeState) (from : NodeId) (tx : TxId) (key : Key) (found : Found) (e : TxEntry) (d : SessionState)
      (c : Command) → StarterInAct past s → entry_of s tx ≡ Some e → e.state ≡ state.Waiting →
      session_state_of s tx.session ≡ Some d → d.pending ≡ Some c → is_pending_access key (Some d) ≡ true
      → Takes (record { from = from; message = msg.LockOk tx key found }) s
      (with_found_read (with_tx_state s tx state.Active) tx key found c)
  lock_ok_good s from tx key found e d c n there waiting here pending on i hand =
      subst (λ z. Good m around (with_found_read (on_entry s tx (λ (x : TxEntry). record x { state = state.Active }) z) tx key
      found c)) (sym there)
      (found_good s1 tx e2 key found c own (laws.at_put_same tx_cmp tx_total s.txs tx e2) refl
      (entry_good past m around s tx e2 own
      (λ y is open_y. let same : e2 ≡ y = cc in subst (λ z. (x : TxEntry) × Follows m (view around s) tx x z) same (e, follows))
      (λ active locks k l has_it first. go k l first (i.locks.keys tx e old (ap is_open waiting) locks k l has_it first)) i))
    where
      own : tx.node ≡ s.me
      own = starter past m around s tx e there n

      e2 : TxEntry
      e2 = record e { state = state.Active }

      s1 : NodeState
      s1 = with_entry s tx e2

      old : (view around s).entry tx.node tx ≡ Some e
      old = own_entry past m around s tx own ∙ there

      live : is_live (view around s).entry tx ≡ true
      live = ap undecided old ∙ ap is_open waiting

      -- what it waits for is this key
      this_key : (k : Key) → WaitsOn (Some e) ((view around s).session_state tx.node tx.session) k → k ≡ key
      this_key k w = pending_is k key (Some d)
          (subst (λ z. is_pending_access k z ≡ true) (own_session_state past m around s tx own ∙ here) w.on) on

      owns : (l : NodeId) → primary_of m key ≡ Some l → owner ((view around s).queue l key) ≡ Some tx
      owns l first = let from_there = hand.0.from in let same : from ≡ l = cc in
          subst (λ z. owner ((view around s).queue z key) ≡ Some tx) same (hand.0.owns live)

      told : (v : View) (a b : NodeId) (y : Message) → Fact m v a b y → once y ≡ Some (ALockOk tx key) →
          (primary_of m key ≡ Some a) × (tx.node ≡ b)
      told v a b (msg.LockOk u l x) f of_y =
          let same_tx : u ≡ tx = cc in
          let same_l : l ≡ key = cc in
          (subst (λ z. primary_of m z ≡ Some a) same_l f.from, subst (λ (z : TxId). z.node ≡ b) same_tx f.to)
      told v a b y f of_y = absurd (cc)

      settled : Settled m (view around s) tx key
      settled = record {
        owns = owns;
        untold = λ a b y there of_y.
            let f = told (view around s) a b y (i.locks.facts a b y there) of_y in
            let from_here = hand.0.from in
            let same_a : a ≡ from = let first = f.0 in cc in
            let same_b : b ≡ s.me = sym f.1 ∙ own in
            hand.1 y (ALockOk tx key) live (subst (λ z. In y ((view around s).flight from z)) same_b
            (subst (λ z. In y ((view around s).flight z b)) same_a there)) refl of_y;
      }

      follows : Follows m (view around s) tx e e2
      follows = record {
        was = old;
        opened = ap is_open waiting;
        same_mode = refl;
        keys = λ k h. h;
        preparing = λ p. absurd (cc);
        waits_still = λ k w. inr (subst (λ z. Settled m (view around s) tx z) (sym (this_key k w)) settled);
      }

      go : (k : Key) (l : NodeId) → primary_of m k ≡ Some l → KeyFact e ((view around s).session_state tx.node tx.session)
          ((view around s).queue l k) tx k → KeyFact e2 ((view around s).session_state tx.node tx.session)
          ((view around s).queue l k) tx k
      go k l first (inl is) = inl is
      go k l first (inr w) = let same = this_key k w in
          inl (subst (λ z. owner ((view around s).queue l z) ≡ Some tx) (sym same)
          (owns l (subst (λ z. primary_of m z ≡ Some l) same first)))

  near_kept_good : (s : NodeState) (key : Key) (near : Bool) (found : Found) → Good m around s →
      Good m around (after_keep_near s key near found)
  near_kept_good s key true (Some (value, ver)) i = record {
    locks = i.locks;
    up = i.up;
    installed = i.installed;
    seen =
        i.seen;
    shares_up = i.shares_up;
  }
  near_kept_good s key true None i = i
  near_kept_good s key false found i = i

  get_ok_good : (s : NodeState) (from : NodeId) (tx : TxId) (key : Key) (found : Found) (near : Bool) (e : TxEntry)
      (d : SessionState) (c : Command) → StarterInAct past s → entry_of s tx ≡ Some e → e.state ≡ state.Active →
      is_some e.getting ≡ true → session_state_of s tx.session ≡ Some d → d.pending ≡ Some c
      → Takes (record { from = from; message = msg.GetOk tx key found }) s
      (with_found_read (after_keep_near (without_getting s tx) key near found) tx key found c)
  get_ok_good s from tx key found near e d c n there active gets here pending i hand =
      let f : TxEntry → TxEntry = λ (x : TxEntry). record x { getting = None } in
      let e2 : TxEntry = f e in
      let own = starter past m around s tx e there n in
      let s0 : NodeState = with_entry s tx e2 in
      let s1 : NodeState = after_keep_near s0 key near found in
      let same = near_kept_same s0 key near found in
      let there1 : entry_of s1 tx ≡ Some e2 = ap (λ es. at tx_cmp es tx) same.0
      ∙ laws.at_put_same tx_cmp tx_total s.txs tx e2 in
      subst (λ z. Good m around (with_found_read (after_keep_near (on_entry s tx f z) key near found) tx key found c))
      (sym there)
      (found_good s1 tx e2 key found c (own ∙ sym same.2) there1 active
      (near_kept_good s0 key near found (calm_good s tx e e2 own there (ap is_open active) (ap waits_for_lock active) refl
      refl refl i)))

  prepared_good : (s : NodeState) (from : NodeId) (tx : TxId) (e : TxEntry) → StarterInAct past s → entry_of s tx ≡ Some e →
      e.state ≡ state.Preparing → Takes (record { from = from; message = msg.Prepared tx }) s (without_awaited s tx from)
  prepared_good s from tx e n there preparing i hand =
      subst (λ z. Good m around
      (on_entry s tx (λ (x : TxEntry). record x { awaited = without_member node_cmp x.awaited from }) z)) (sym there)
      (calm_good s tx e (record e { awaited = without_member node_cmp e.awaited from }) (starter past m around s tx e there n)
      there (ap is_open preparing) (ap waits_for_lock preparing) refl refl refl i)

  finishing_over : (st : TxState) → is_finishing st ≡ true → is_open st ≡ false
  finishing_over state.Committing f = refl
  finishing_over state.RollingBack f = refl
  finishing_over state.Idle f = absurd (cc)
  finishing_over state.Active f = absurd (cc)
  finishing_over state.Waiting f = absurd (cc)
  finishing_over state.Searching f = absurd (cc)
  finishing_over state.Preparing f = absurd (cc)
  finishing_over state.Ended f = absurd (cc)

  finished_good : (s : NodeState) (from : NodeId) (tx : TxId) (e : TxEntry) → StarterInAct past s → entry_of s tx ≡ Some e →
      is_finishing e.state ≡ true → Takes (record { from = from; message = msg.Finished tx }) s (without_awaited s tx from)
  finished_good s from tx e n there finishing i hand =
      subst (λ z. Good m around
      (on_entry s tx (λ (x : TxEntry). record x { awaited = without_member node_cmp x.awaited from }) z)) (sym there)
      (over_good past m around s tx (record e { awaited = without_member node_cmp e.awaited from })
      (starter past m around s tx e there n) (finishing_over e.state finishing) i)

  pub lock_answers : AnswerKit past (Keeps past m around) Takes
  lock_answers = record {
    after = λ h a b c first second i hand. second (first i hand);
    ignored = λ s h n why i hand. i;
    lock_ok = lock_ok_good;
    get_ok = get_ok_good;
    prepared_by = prepared_good;
    finished_by = finished_good;
  }
