-- The atoms of the near side keep what is true of locks.
use Rattle.frame_laws.proofs.Extending.{append_none, append_twice}
use Rattle.ignite_types.proofs.NameLaws.{tx_total}
use Rattle.act_rows.specs.Accesses.{access_key, is_pending_access, is_that_key, with_lock_asked}
use Rattle.act_rows.specs.Commands.{after_open_tx, new_entry, next_tx}
use Rattle.act_rows.specs.Decisions.{without_tx}
use Rattle.act_rows.specs.Decisions.{after_decide, after_fail}
use Rattle.act_rows.specs.Steps.{entry_of, near_of, on_entry, on_session_state, primary_at, session_state_of, with_entry, with_near, with_note, with_out, with_session_state}
use Rattle.ignite_types.specs.Names.{key_cmp, tx_cmp}
use Rattle.ignite_types.specs.Names.{same_tx}
use Rattle.ignite_types.specs.declared.answer.Fault.{Fault}
use Rattle.ignite_types.specs.declared.journal.Rec.TheVariants as note
use Rattle.ignite_types.specs.declared.journal.Rec.{Rec}
use Rattle.ignite_types.specs.declared.message.Message.TheVariants as msg
use Rattle.ignite_types.specs.declared.names.NodeId.{NodeId}
use Rattle.ignite_types.specs.declared.names.TopVer.{TopVer}
use Rattle.ignite_types.specs.declared.names.TxId.{TxId}
use Rattle.ignite_types.specs.declared.placement.Share.{Share}
use Rattle.ignite_types.specs.declared.scenario.Mode.TheVariants as mode
use Rattle.ignite_types.specs.declared.scenario.Mode.{Mode}
use Rattle.ignite_types.specs.declared.text.Key.{Key}
use Rattle.node_state.specs.declared.near.TxEntry.{TxEntry}
use Rattle.node_state.specs.declared.near.TxState.TheVariants as state
use Rattle.node_state.specs.declared.near.TxState.{TxState}
use Rattle.node_state.specs.Node.{NodeState}
use Rattle.node_state.specs.declared.session.SessionState.{SessionState}
use Rattle.ordered_set.specs.Members.{has, with_member}
use Rattle.ordered_table.proofs.Laws as laws
use Rattle.ordered_table.specs.Entries.{at, put}
use Rattle.ordered_table.specs.Entries.{without}
use Rattle.std.proofs.Common.{◌≡◌, ◌⊎◌, inl, inr, List, [], ◌∷◌, ◌++◌, Bool, true, false, if◌then◌else◌, Option, Some, None, refl, ap, sym, subst, ◌∙◌, arith, ℕ, ◌≤◌, ◌<◌}
use Rattle.std.proofs.lemmas.Cmp.{nat_cmp_total}
use Rattle.std.specs.Option.{option_and_then}
use Rattle.std.specs.Ordering.{nat_cmp}
use Rattle.std.specs.Prelude.{◌^◌, ◌-◌}
use Rattle.part_model.specs.Orders.{is_node}
use Rattle.ignite_types.proofs.NameLaws.{same_node_true}
use Rattle.ignite_types.specs.Names.{node_cmp}
use Rattle.transaction_laws.proofs.StarterAtoms as atoms
use Rattle.transaction_laws.proofs.StarterAtoms.{Goes, Still, active_change, active_shape, active_is_open}
use Rattle.transaction_laws.proofs.StarterAtoms.{no_more}
use Rattle.transaction_laws.proofs.StarterAccesses.{acts_moved}
use Rattle.act_rows.specs.Accesses.{after_backup_finished_at_starter}
use Rattle.act_rows.specs.Decisions.{after_left_decided, backup_finish_outs, decided_state, entry_after_left, is_committing, outs_after_left, with_entry_left}
use Rattle.ignite_types.specs.Names.{share_cmp}
use Rattle.ordered_set.specs.Members.{without_member}
use Rattle.act_rows.specs.Steps.{live_holders}
use Rattle.part_model.specs.NearEntries.{near_front}
use Rattle.transaction_laws.specs.StarterStates.{is_open}
use Rattle.transaction_laws.specs.StarterFacts.{IsActing, StarterInAct, is_busy}
use Rattle.transaction_laws.specs.StarterFacts.{SessionFitsAt, SessionFits, EntryFits, is_resting, tx_of}
use Rattle.transaction_laws.specs.StarterKits.{StarterKit}
use Rattle.ignite_types.proofs.NameLaws.{exact_txs}
use Rattle.act_rows.specs.Accesses.{after_send_prepares, prepare_outs, shares_of, version_read, wanted_at, writes_at}
use Rattle.act_rows.specs.Decisions.{after_decide_of, backup_finish_outs, decided_entry, decision_outs, finishes_for_lost, primaries_at}
use Rattle.act_rows.specs.Searches.{with_search}
use Rattle.std.proofs.lemmas.Map.Lookups.{exact_unsigned}
use Rattle.act_rows.specs.Steps.{live_among, live_holders, lost_among, outs_to, with_outs}
use Rattle.ignite_types.specs.Placement.{primary_of}
use Rattle.ignite_types.specs.declared.message.Message.{Message}
use Rattle.ignite_types.specs.declared.message.Out.{Out}
use Rattle.ignite_types.specs.declared.message.Wanted.{Wanted}
use Rattle.ignite_types.specs.declared.placement.PartMap.{PartMap}
use Rattle.node_state.specs.declared.near.Search.{Search}
use Rattle.owner_laws.specs.LockFacts.{ALock, Each, Fact, In, IsNamed, KeyFact, KeysFact, Tag, WaitsOn, is_live, is_locking, once, undecided, waits}
use Rattle.transaction_laws.specs.StarterStates.{waits_for_lock}
use Rattle.transaction_laws.specs.StarterKits.{IsQuietChange}
use Rattle.owner_laws.specs.LockViews.{Around, View, view}
use Rattle.transaction_laws.proofs.KeySets.{has_itself, has_with}
use Rattle.owner_laws.proofs.Lists.{Wrote, wrote_elim}
use Rattle.owner_laws.proofs.LockRows.{Good, noting_good, sent_good}
use Rattle.owner_laws.proofs.LockSteps.{Calm, Follows, Steady, session_state_keeps, fact_link, entry_keeps, open_keeps}
use Rattle.transaction_laws.proofs.Tables.{put_elim, without_elim}
use Rattle.owner_laws.proofs.LockViews.{of_node_me, wrote_here}

module _ (past : List Rec) (m : PartMap) (around : Around) where
  abbrev pub Keeps : NodeState → NodeState → Type 0
  Keeps s s2 = Good m around s → Good m around s2

  pub own_entry : (s : NodeState) (tx : TxId) → tx.node ≡ s.me → (view around s).entry tx.node tx ≡ entry_of s tx
  own_entry s tx own = subst (λ n. (view around s).entry n tx ≡ entry_of s tx) (sym own)
      (ap (λ f. f tx) (of_node_me s.me (entry_of s) (entry_of (around.others s.me))))

  pub own_session_state : (s : NodeState) (tx : TxId) → tx.node ≡ s.me → (view around s).session_state tx.node tx.session
      ≡ session_state_of s tx.session
  own_session_state s tx own = subst (λ n. (view around s).session_state n tx.session ≡ session_state_of s tx.session) (sym own)
      (ap (λ f. f tx.session) (of_node_me s.me (session_state_of s) (session_state_of (around.others s.me))))

  put_one : (s : NodeState) (tx : TxId) (e : TxEntry) (b : TxId) → ((b ≡ tx) × (at tx_cmp (put tx_cmp s.txs tx e) b ≡ Some e))
      ⊎ (at tx_cmp (put tx_cmp s.txs tx e) b ≡ at tx_cmp s.txs b)
  put_one s tx e b = put_elim tx_cmp tx_total exact_txs (λ b x. ((b ≡ tx) × (x ≡ Some e)) ⊎ (x ≡ at tx_cmp s.txs b)) s.txs tx e (inl (refl, refl))
      (λ b ne. inr refl) b

  entry_written : (s : NodeState) (tx : TxId) (e : TxEntry) → tx.node ≡ s.me →
      Wrote (view around s).entry (view around (with_entry s tx e)).entry tx.node tx (Some e)
  entry_written s tx e own = subst (λ n. Wrote (view around s).entry (view around (with_entry s tx e)).entry n tx (Some e)) (sym own)
      (wrote_here s.me (entry_of s) (entry_of (with_entry s tx e)) (λ n. entry_of (around.others n)) tx (Some e) (put_one s tx e))

  -- an entry that goes on
  pub entry_good : (s : NodeState) (tx : TxId) (e : TxEntry) → tx.node ≡ s.me → Steady m (view around s) tx (Some e) →
      KeysFact m (view around s) tx e → Good m around s → Good m around (with_entry s tx e)
  entry_good s tx e own steady keys i = record {
    locks = entry_keeps m (view around s) (view around (with_entry s tx e)).entry tx (Some e) (entry_written s tx e own) steady
        (λ x is. let same : e ≡ x = cc in subst (KeysFact m (view around s) tx) same keys) i.locks;
    up = i.up;
    installed = i.installed;
    seen = i.seen;
    shares_up = i.shares_up;
  }

  pub starter : (s : NodeState) (tx : TxId) (e : TxEntry) → entry_of s tx ≡ Some e → StarterInAct past s → tx.node ≡ s.me
  starter s tx e there n = (no_more past s n tx e there).starter

  -- a decided entry
  pub over_good : (s : NodeState) (tx : TxId) (e : TxEntry) → tx.node ≡ s.me → is_open e.state ≡ false → Good m around s →
      Good m around (with_entry s tx e)
  over_good s tx e own over i =
      entry_good s tx e own
      (λ y is opened. absurd (let same : e ≡ y = cc in let now : is_open e.state ≡ true = ap (λ (z : TxEntry). is_open z.state) same ∙ opened in cc))
      (λ opened. absurd (cc)) i

  -- an undecided entry that waits for nothing, nor did before
  pub calm_steady : (s : NodeState) (tx : TxId) (old e : TxEntry) → tx.node ≡ s.me → entry_of s tx ≡ Some old → is_open old.state ≡ true →
      waits_for_lock old.state ≡ false → e.mode ≡ old.mode → ((k : Key) → has key_cmp old.keys k ≡ true → has key_cmp e.keys k ≡ true) →
      (old.state ≡ state.Preparing → e.state ≡ state.Preparing)
      → Steady m (view around s) tx (Some e)
  calm_steady s tx old e own there opened calm same_mode keys preparing y is open_y =
      let same : e ≡ y = cc in
      subst (λ z. (x : TxEntry) × Follows m (view around s) tx x z) same (
        old,
        record {
          was = own_entry s tx own ∙ there;
          opened = opened;
          same_mode = same_mode;
          keys = keys;
          preparing = preparing;
          waits_still =
              λ k waiting. absurd (let w = waiting.waiting in cc);
        },
      )

  -- an active transaction that keeps its keys goes on so
  pub active_keys : (s : NodeState) (tx : TxId) (old e : TxEntry) → tx.node ≡ s.me → entry_of s tx ≡ Some old → is_open old.state ≡ true →
      waits_for_lock old.state ≡ false → e.mode ≡ old.mode → e.keys ≡ old.keys → Good m around s → KeysFact m (view around s) tx e
  active_keys s tx old e own there opened calm same_mode same_keys i active locks k n has_it first =
      go (i.locks.keys tx old (own_entry s tx own ∙ there) opened (ap is_locking (sym same_mode) ∙ locks) k n
      (subst (λ z. has key_cmp z k ≡ true) same_keys has_it) first)
    where
      go : KeyFact old ((view around s).session_state tx.node tx.session) ((view around s).queue n k) tx k →
          KeyFact e ((view around s).session_state tx.node tx.session) ((view around s).queue n k) tx k
      go (inl owns) = inl owns
      go (inr waiting) = absurd (let w = waiting.waiting in cc)

  optimistic_keys : (s : NodeState) (tx : TxId) (e : TxEntry) → e.mode ≡ mode.Optimistic → KeysFact m (view around s) tx e
  optimistic_keys s tx e free active locks = absurd (let l : is_locking mode.Optimistic ≡ true = subst (λ z. is_locking z ≡ true) free locks in cc)

  -- what an active transaction does
  active_good : (s : NodeState) (tx : TxId) (top : TopVer) (a : IsActing s tx top) (e : TxEntry) → StarterInAct past s → e.mode ≡ a.entry.mode →
      e.keys ≡ a.entry.keys → Good m around s → Good m around (with_entry s tx e)
  active_good s tx top a e n same_mode same_keys i =
      let own = starter s tx a.entry a.there n in
      let opened : is_open a.entry.state ≡ true = ap is_open a.active in
      let calm : waits_for_lock a.entry.state ≡ false = ap waits_for_lock a.active in
      entry_good s tx e own
      (calm_steady s tx a.entry e own a.there opened calm same_mode (λ k h. subst (λ z. has key_cmp z k ≡ true) (sym same_keys) h)
      (λ p. absurd (let active = a.active in cc)))
      (active_keys s tx a.entry e own a.there opened calm same_mode same_keys i) i

  -- Messages that come as often as they like.

  abbrev pub Plain : NodeState → Out → Type 0
  Plain s o = Fact m (view around s) s.me o.to o.msg × (once o.msg ≡ None)

  pub plain_good : (s : NodeState) (to : NodeId) (x : Message) → Fact m (view around s) s.me to x → once x ≡ None → Good m around s →
      Good m around (with_out s to x)
  plain_good s to x fact plain i = sent_good m around s to x fact (λ y g live there of_x of_y. cc (plain, of_x)) i

  pub sents_good : (s : NodeState) (outs : List Out) → Each (Plain s) outs → Good m around s → Good m around (with_outs s outs)
  sents_good s [] each i = subst (λ os. Good m around (record s { outbox = os })) (sym (append_none s.outbox)) i
  sents_good s (o ∷ outs) each i =
      let first = each o (inl refl) in
      subst (λ os. Good m around (record s { outbox = os })) (append_twice s.outbox (o ∷ []) outs)
      (sents_good (with_out s o.to o.msg) outs (λ x there. let more = each x (inr there) in
      (fact_link m (view around s) (view around (with_out s o.to o.msg)).flight s.me x.to x.msg more.0, more.1))
      (plain_good s o.to o.msg first.0 first.1 i))

  pub to_each : (s : NodeState) (nodes : List NodeId) (x : Message) → ((n : NodeId) → Fact m (view around s) s.me n x) → once x ≡ None →
      Each (Plain s) (outs_to nodes x)
  to_each s [] x fact plain o there = absurd there
  to_each s (n ∷ nodes) x fact plain o (inl is) = subst (Plain s) (sym is) (fact n, plain)
  to_each s (n ∷ nodes) x fact plain o (inr there) = to_each s nodes x fact plain o there

  pub both_each : (s : NodeState) (xs ys : List Out) → Each (Plain s) xs → Each (Plain s) ys → Each (Plain s) (xs ++ ys)
  both_each s [] ys first second o there = second o there
  both_each s (x ∷ xs) ys first second o (inl is) = first o (inl is)
  both_each s (x ∷ xs) ys first second o (inr there) = both_each s xs ys (λ z h. first z (inr h)) second o there

  -- Sessions.

  session_state_put : (s : NodeState) (session : ℕ) (d : SessionState) (b : ℕ) →
      ((b ≡ session) × (at nat_cmp (put nat_cmp s.session_states session d) b ≡ Some d))
      ⊎ (at nat_cmp (put nat_cmp s.session_states session d) b ≡ at nat_cmp s.session_states b)
  session_state_put s session d b = put_elim nat_cmp nat_cmp_total exact_unsigned (λ b x. ((b ≡ session) × (x ≡ Some d))
      ⊎ (x ≡ at nat_cmp s.session_states b)) s.session_states session d (inl (refl, refl)) (λ b ne. inr refl) b

  -- a live transaction that waits for a lock has its session's command at work
  waiting_busy : (s : NodeState) (session : ℕ) (d : SessionState) (t : TxId) → StarterInAct past s → session_state_of s session ≡ Some d →
      t.node ≡ s.me → t.session ≡ session → (e : Option TxEntry) → entry_of s t ≡ e → undecided e ≡ true → waits e ≡ true → is_busy d ≡ false → ⊥
  waiting_busy s session d t n here own of_session None there live waiting free = cc
  waiting_busy s session d t n here own of_session (Some e) there live waiting free =
      let was = no_more past s n t e there in
      let at_d : session_state_of s t.session ≡ Some d = subst (λ z. session_state_of s z ≡ Some d) (sym of_session) here in
      let is : d.tx ≡ Some t = ap tx_of (sym at_d) ∙ was.at_home in
      let f : SessionFits s.me s.txs session d = subst (SessionFitsAt s.me s.txs session) here (n.sessions session) in
      let rests = f.rests free t e is there (atoms.open_faultless e.state e live was.shape) in
      never e.state rests.resting waiting
    where
      never : (st : TxState) → is_resting st ≡ true → waits_for_lock st ≡ true → ⊥
      never state.Idle r w = cc
      never state.Active r w = cc
      never state.Waiting r w = cc
      never state.Searching r w = cc
      never state.Preparing r w = cc
      never state.Committing r w = cc
      never state.RollingBack r w = cc
      never state.Ended r w = cc

  -- the session's state may be any while the transactions of its session do not wait, or while its command stays
  calm_session_state : (s : NodeState) (session : ℕ) (d d2 : SessionState) → session_state_of s session ≡ Some d → d.started ≤ d2.started
      → ((t : TxId) (k : Key) → t.node ≡ s.me → t.session ≡ session → undecided (entry_of s t) ≡ true → WaitsOn (entry_of s t) (Some d) k →
      WaitsOn (entry_of s t) (Some d2) k)
      → Calm m (view around s) (view around (with_session_state s session d2)).session_state
  calm_session_state s session d d2 here count still =
      let w : Wrote (view around s).session_state (view around (with_session_state s session d2)).session_state s.me session (Some d2) =
      wrote_here s.me (session_state_of s) (session_state_of (with_session_state s session d2)) (λ n. session_state_of (around.others n)) session
      (Some d2) (session_state_put s session d2) in
      let v = view around s in
      record {
        waiting = λ t k live.
            wrote_elim (λ c n x. t.node ≡ c → t.session ≡ n → WaitsOn (v.entry t.node t) (v.session_state c n) k → WaitsOn (v.entry t.node t) x k)
            v.session_state (view around (with_session_state s session d2)).session_state s.me session (Some d2) w
            (λ own of_session waiting.
            let entry : v.entry t.node t ≡ entry_of s t = own_entry s t own in
            let old : v.session_state s.me session ≡ Some d =
            ap (λ f. f session) (of_node_me s.me (session_state_of s) (session_state_of (around.others s.me))) ∙ here in
            subst (λ z. WaitsOn z (Some d2) k) (sym entry)
            (still t k own of_session (ap undecided (sym entry) ∙ live)
            (subst (λ z. WaitsOn z (Some d) k) entry (subst (λ z. WaitsOn (v.entry t.node t) z k) old waiting))))
            (λ c n own of_session waiting. waiting)
            t.node t.session refl refl;
        named = λ t.
            wrote_elim (λ c n x. t.node ≡ c → t.session ≡ n → IsNamed (v.session_state c n) t → IsNamed x t) v.session_state
            (view around (with_session_state s session d2)).session_state s.me session (Some d2) w
            (λ own of_session named.
            let old : v.session_state s.me session ≡ Some d =
            ap (λ f. f session) (of_node_me s.me (session_state_of s) (session_state_of (around.others s.me))) ∙ here in
            let low : t.number ≤ d.started = subst (λ z. IsNamed z t) old named in
            omega (arith, low, count))
            (λ c n own of_session named. named)
            t.node t.session refl refl;
      }

  moved_session_state : (s : NodeState) (session : ℕ) (d2 : SessionState) →
      Calm m (view around s) (view around (with_session_state s session d2)).session_state → Good m around s →
      Good m around (with_session_state s session d2)
  moved_session_state s session d2 calm i =
      record {
        locks = session_state_keeps m (view around s) (view around (with_session_state s session d2)).session_state calm i.locks;
        up = i.up;
        installed = i.installed;
        seen = i.seen;
        shares_up = i.shares_up;
      }

  session_state_good : (s : NodeState) (session : ℕ) (d d2 : SessionState) → StarterInAct past s → session_state_of s session ≡ Some d →
      d2.tx ≡ d.tx → d2.started ≡ d.started → IsQuietChange d d2 → Keeps s (with_session_state s session d2)
  session_state_good s session d d2 n here same_tx same_count quiet i =
      moved_session_state s session d2 (calm_session_state s session d d2 here (omega (arith, same_count)) (λ t k own of_session live waiting.
      go t k own of_session live waiting quiet)) i
    where
      go : (t : TxId) (k : Key) → t.node ≡ s.me → t.session ≡ session → undecided (entry_of s t) ≡ true → WaitsOn (entry_of s t) (Some d) k →
          IsQuietChange d d2 → WaitsOn (entry_of s t) (Some d2) k
      go t k own of_session live waiting (inl same) =
          record { waiting = waiting.waiting; on = subst (λ z. is_that_key k (option_and_then access_key z) ≡ true) (sym same) waiting.on }
      go t k own of_session live waiting (inr free) =
          absurd (waiting_busy s session d t n here own of_session (entry_of s t) refl live waiting.waiting free)

  -- A transaction is opened, by a session that has none.
  opened_good : (s : NodeState) (session : ℕ) (d : SessionState) (x : Mode) (deadline : Option ℕ) (block : Bool) → StarterInAct past s →
      session_state_of s session ≡ Some d → d.tx ≡ None → d.started < 2 ^ 64 - 1 →
      Keeps s (after_open_tx s (next_tx s session d.started) x deadline block)
  opened_good s session d x deadline block n here none room i =
      let tx : TxId = next_tx s session d.started in
      let e : TxEntry = new_entry x deadline in
      let d2 : SessionState = record d { tx = Some tx; block = block; skipping = false; started = tx.number } in
      let known : NodeState = with_entry s tx e in
      let higher : d.started < tx.number = omega (arith, room) in
      let f : SessionState → SessionState = λ (y : SessionState). record y { tx = Some tx; block = block; skipping = false; started = tx.number } in
      let old : (view around s).session_state s.me session ≡ Some d =
      ap (λ f. f session) (of_node_me s.me (session_state_of s) (session_state_of (around.others s.me))) ∙ here in
      let first : Good m around known = record {
        locks = open_keeps m (view around s) (view around known).entry tx e (entry_written s tx e refl) (λ named. let low : tx.number ≤ d.started =
            subst (λ z. IsNamed z tx) old named in omega (arith, low, higher)) refl i.locks;
        up = i.up;
        installed = i.installed;
        seen = i.seen;
        shares_up = i.shares_up;
      } in
      subst (λ z. Good m around (on_session_state known session f z)) (sym here)
      (moved_session_state known session d2 (calm_session_state known session d d2 here (omega (arith, higher)) (λ t k own of_session live waiting.
      record { waiting = waiting.waiting; on = waiting.on })) first)

  -- A transaction has ended: its session has none.
  without_written : (s : NodeState) (tx : TxId) → tx.node ≡ s.me → StarterInAct past s →
      Wrote (view around s).entry (view around (without_tx s tx)).entry tx.node tx None
  without_written s tx own n = subst (λ z. Wrote (view around s).entry (view around (without_tx s tx)).entry z tx None) (sym own)
      (wrote_here s.me (entry_of s) (entry_of (without_tx s tx)) (λ z. entry_of (around.others z)) tx None
      (λ b. without_elim tx_cmp tx_total exact_txs (λ b x. ((b ≡ tx) × (x ≡ None)) ⊎ (x ≡ at tx_cmp s.txs b)) s.txs tx n.up (inl (refl, refl))
      (λ b ne. inr refl) b))

  closed_good : (s : NodeState) (tx : TxId) (e : TxEntry) (d d2 : SessionState) → StarterInAct past s → entry_of s tx ≡ Some e →
      is_open e.state ≡ false → e.awaited ≡ [] → e.backups ≡ [] → session_state_of s tx.session ≡ Some d → d2.tx ≡ None → d2.started ≡ d.started
      → Keeps s (with_session_state (record s { txs = without tx_cmp s.txs tx }) tx.session d2)
  closed_good s tx e d d2 n there over awaited backups here none count i =
      let own = starter s tx e there n in
      let gone : NodeState = without_tx s tx in
      let first : Good m around gone = record {
        locks = entry_keeps m (view around s) (view around gone).entry tx None (without_written s tx own n) (λ y is. absurd (cc))
            (λ y is. absurd (cc)) i.locks;
        up = i.up;
        installed = i.installed;
        seen = i.seen;
        shares_up = i.shares_up;
      } in
      moved_session_state gone tx.session d2 (calm_session_state gone tx.session d d2 here (omega (arith, count)) (λ t k mine of_session live waiting.
      absurd (only t mine of_session live))) first
    where
      -- the session had no other transaction
      only : (t : TxId) → t.node ≡ s.me → t.session ≡ tx.session → undecided (entry_of (without_tx s tx) t) ≡ true → ⊥
      only t mine of_session = without_elim tx_cmp tx_total exact_txs (λ u x. u.session ≡ tx.session → undecided x ≡ true → ⊥) s.txs tx n.up
          (λ of_session live. cc)
          (λ u ne of_session live. other u ne of_session (at tx_cmp s.txs u) refl live) t of_session
        where
          other : (u : TxId) → (u ≡ tx → ⊥) → u.session ≡ tx.session → (x : Option TxEntry) → at tx_cmp s.txs u ≡ x → undecided x ≡ true → ⊥
          other u ne of_session None stands live = cc
          other u ne of_session (Some y) stands live =
              let was = no_more past s n u y stands in
              let mine = no_more past s n tx e there in
              let at_u : tx_of (session_state_of s tx.session) ≡ Some u = subst (λ z. tx_of (session_state_of s z) ≡ Some u) of_session was.at_home in
              let at_tx = mine.at_home in
              ne (cc)

  -- Accesses.

  touched_good : (s : NodeState) (tx : TxId) (top : TopVer) (a : IsActing s tx top) (key : Key) (e : TxEntry) → StarterInAct past s →
      a.entry.mode ≡ mode.Optimistic → e.mode ≡ a.entry.mode → e.keys ≡ with_member key_cmp a.entry.keys key → Keeps s (with_entry s tx e)
  touched_good s tx top a key e n free same_mode more i =
      let own = starter s tx a.entry a.there n in
      entry_good s tx e own
      (calm_steady s tx a.entry e own a.there (ap is_open a.active) (ap waits_for_lock a.active) same_mode
      (λ k h. subst (λ z. has key_cmp z k ≡ true) (sym more) (still k h (has_with a.entry.keys key k))) (λ p. absurd (let active = a.active in cc)))
      (optimistic_keys s tx e (same_mode ∙ free)) i
    where
      still : (k : Key) → has key_cmp a.entry.keys k ≡ true → ((k ≡ key) × (has key_cmp (with_member key_cmp a.entry.keys key) k ≡ true))
          ⊎ (has key_cmp (with_member key_cmp a.entry.keys key) k ≡ has key_cmp a.entry.keys k) → has key_cmp (with_member key_cmp a.entry.keys key) k
          ≡ true
      still k h (inl is) = is.1
      still k h (inr same) = same ∙ h

  pub lock_waits : (v : View) (a b : NodeId) (y : Message) (t : TxId) (k : Key) → Fact m v a b y → once y ≡ Some (ALock t k) →
      is_live v.entry t ≡ true → waits (v.entry t.node t) ≡ true
  lock_waits v a b (msg.Lock u top l) t k f e live = let same : u ≡ t = cc in
      subst (λ (x : TxId). is_live v.entry x ≡ true → waits (v.entry x.node x) ≡ true) same (λ live. (f.waits_on live).waiting) live
  lock_waits v a b y t k f e live = absurd (cc)

  named_own : (s : NodeState) (tx : TxId) (e : TxEntry) → entry_of s tx ≡ Some e → StarterInAct past s →
      IsNamed ((view around s).session_state tx.node tx.session) tx
  named_own s tx e there n = subst (λ z. IsNamed z tx) (sym (own_session_state s tx was.starter)) (by (session_state_of s tx.session) refl)
    where
      was : EntryFits s.me (past ++ s.noted) (session_state_of s tx.session) tx e
      was = no_more past s n tx e there

      by : (d : Option SessionState) → session_state_of s tx.session ≡ d → IsNamed d tx
      by None here = absurd (let at = was.at_home in let gone : tx_of (session_state_of s tx.session) ≡ None = ap tx_of here in cc)
      by (Some d) here =
          let f : SessionFits s.me s.txs tx.session d = subst (SessionFitsAt s.me s.txs tx.session) here (n.sessions tx.session) in
          let number : tx.number ≡ d.started = ap (λ (z : TxId). z.number) (f.named tx (ap tx_of (sym here) ∙ was.at_home)) in
          omega (arith, number)

  primary_is : (s : NodeState) (key : Key) (primary : NodeId) → Good m around s → primary_at s key ≡ Some primary → primary_of m key ≡ Some primary
  primary_is s key primary i first = subst (λ z. option_and_then (λ (x : PartMap). primary_of x key) z ≡ Some primary) i.installed first

  asked_lock_good : (s : NodeState) (tx : TxId) (top : TopVer) (a : IsActing s tx top) (key : Key) (primary : NodeId) → StarterInAct past s →
      a.entry.mode ≡ mode.Pessimistic → has key_cmp a.entry.keys key ≡ false → primary_at s key ≡ Some primary
      → is_pending_access key (Some a.session_state) ≡ true → Keeps s (with_out (with_lock_asked s tx key primary) primary (msg.Lock tx top key))
  asked_lock_good s tx top a key primary n locking fresh first on i =
      subst (λ z. Good m around (with_out (on_entry s tx f z) primary (msg.Lock tx top key))) (sym a.there)
      (sent_good m around s2 primary (msg.Lock tx top key)
      (record {
        named = named_own s tx a.entry a.there n;
        from = own;
        to = primary_is s key primary i first;
        touched = λ x is. let same : e2 ≡ x = cc (now, is) in subst (λ z. is_open z.state ≡ true → is_locking z.mode ≡ true →
            has key_cmp z.keys key ≡ true) same (λ opened locks. has_itself a.entry.keys key);
        waits_on = λ live. subst (λ z. WaitsOn z ((view around s).session_state tx.node tx.session) key) (sym now) waits_now;
        unqueued = λ live place. cc (
          fresh,
          (i.locks.places primary key tx place).touched a.entry (own_entry s tx own ∙ a.there) (ap is_open a.active)
              (ap is_locking locking),
        );
      })
      (λ y g live there of_x of_y. absurd (told y g there of_x of_y))
      (entry_good s tx e2 own
      (calm_steady s tx a.entry e2 own a.there (ap is_open a.active) (ap waits_for_lock a.active) refl
      (λ k h. still k h (has_with a.entry.keys key k)) (λ p. absurd (let active = a.active in cc)))
      (λ opened locks k c has_k home. keys k c home (has_with a.entry.keys key k) has_k) i))
    where
      f : TxEntry → TxEntry
      f e = record e { keys = with_member key_cmp e.keys key; asked = with_member node_cmp e.asked primary; state = state.Waiting }

      e2 : TxEntry
      e2 = f a.entry

      s2 : NodeState
      s2 = with_entry s tx e2

      own : tx.node ≡ s.me
      own = starter s tx a.entry a.there n

      now : (view around s2).entry tx.node tx ≡ Some e2
      now = own_entry s2 tx own ∙ laws.at_put_same tx_cmp tx_total s.txs tx e2

      waits_now : WaitsOn (Some e2) ((view around s).session_state tx.node tx.session) key
      waits_now = record {
        waiting = refl;
        on = subst (λ z. is_pending_access key z ≡ true) (sym (own_session_state s tx own ∙ a.session_state_there))
            on;
      }

      still : (k : Key) → has key_cmp a.entry.keys k ≡ true → ((k ≡ key) × (has key_cmp (with_member key_cmp a.entry.keys key) k ≡ true))
          ⊎ (has key_cmp (with_member key_cmp a.entry.keys key) k ≡ has key_cmp a.entry.keys k) → has key_cmp (with_member key_cmp a.entry.keys key) k
          ≡ true
      still k h (inl is) = is.1
      still k h (inr same) = same ∙ h

      keys : (k : Key) (c : NodeId) → primary_of m k ≡ Some c → ((k ≡ key) × (has key_cmp (with_member key_cmp a.entry.keys key) k ≡ true))
          ⊎ (has key_cmp (with_member key_cmp a.entry.keys key) k ≡ has key_cmp a.entry.keys k)
          → has key_cmp (with_member key_cmp a.entry.keys key) k ≡ true → KeyFact e2 ((view around s).session_state tx.node tx.session)
          ((view around s).queue c k) tx k
      keys k c home (inl is) has_k = inr (subst (λ z. WaitsOn (Some e2) ((view around s).session_state tx.node tx.session) z) (sym is.0) waits_now)
      keys k c home (inr same) has_k = go (i.locks.keys tx a.entry (own_entry s tx own ∙ a.there) (ap is_open a.active) (ap is_locking locking) k c
          (sym same ∙ has_k) home)
        where
          go : KeyFact a.entry ((view around s).session_state tx.node tx.session) ((view around s).queue c k) tx k →
              KeyFact e2 ((view around s).session_state tx.node tx.session) ((view around s).queue c k) tx k
          go (inl owns) = inl owns
          go (inr waiting) = absurd (let w = waiting.waiting in let active = ap waits_for_lock a.active in cc)

      told : (y : Message) (g : Tag) → In y ((view around s).flight s.me primary) → Some (ALock tx key) ≡ Some g → once y ≡ Some g → ⊥
      told y g there of_x of_y =
          let old : (view around s).entry tx.node tx ≡ Some a.entry = own_entry s tx own ∙ a.there in
          let waiting = lock_waits (view around s) s.me primary y tx key (i.locks.facts s.me primary y there) (of_y ∙ sym of_x) (ap undecided old
          ∙ ap is_open a.active) in
          let none : waits ((view around s).entry tx.node tx) ≡ false = ap waits old ∙ ap waits_for_lock a.active in
          cc

  -- Prepare and decisions.

  wanted_here : (s : NodeState) (entry : TxEntry) (node : NodeId) (keys : List Key) → Good m around s →
      Each (λ (w : Wanted). primary_of m w.key ≡ Some node) (wanted_at s entry node keys)
  wanted_here s entry node [] i = λ w there. absurd there
  wanted_here s entry node (key ∷ keys) i = go (wanted_here s entry node keys i) (is_node node (primary_at s key)) refl
    where
      node_there : (x : Option NodeId) → is_node node x ≡ true → x ≡ Some node
      node_there None own = absurd (cc)
      node_there (Some x) own = ap Some (sym (same_node_true node x own))

      first : Wanted
      first = record { key = key; had = version_read (at key_cmp entry.reads key) }

      go : Each (λ (w : Wanted). primary_of m w.key ≡ Some node) (wanted_at s entry node keys) → (b : Bool) → is_node node (primary_at s key) ≡ b →
          Each (λ (w : Wanted). primary_of m w.key ≡ Some node) (if b then first ∷ wanted_at s entry node keys else wanted_at s entry node keys)
      go more false own w there = more w there
      go more true own w (inl is) = subst (λ (z : Wanted). primary_of m z.key ≡ Some node) (sym is)
          (primary_is s key node i (node_there (primary_at s key) own))
      go more true own w (inr there) = more w there

  prepare_each : (s : NodeState) (tx : TxId) (top : TopVer) (entry y : TxEntry) (shares : List Share) (nodes : List NodeId) → tx.node ≡ s.me →
      (view around s).entry tx.node tx ≡ Some y → y.state ≡ state.Preparing → y.mode ≡ entry.mode
      → IsNamed ((view around s).session_state tx.node tx.session) tx → Good m around s → Each (Plain s) (prepare_outs s tx top entry shares nodes)
  prepare_each s tx top entry y shares [] own now preparing same named i = λ o there. absurd there
  prepare_each s tx top entry y shares (node ∷ more) own now preparing same named i =
      go (prepare_each s tx top entry y shares more own now preparing same named i)
    where
      first : Plain s (record {
        to = node;
        msg = msg.Prepare tx top entry.mode shares (wanted_at s entry node entry.keys)
            (writes_at s node entry.writes);
      })
      first = (
        record {
          named = named;
          preparing = λ x is opened. let same_entry : y ≡ x = cc (now, is) in
              subst (λ z. (z.state ≡ state.Preparing) × (z.mode ≡ entry.mode)) same_entry (preparing, same);
          here = wanted_here s entry node entry.keys i;
        },
        refl,
      )

      go : Each (Plain s) (prepare_outs s tx top entry shares more) → Each (Plain s) (prepare_outs s tx top entry shares (node ∷ more))
      go rest o (inl is) = subst (Plain s) (sym is) first
      go rest o (inr there) = rest o there

  prepared_good : (s : NodeState) (tx : TxId) (top : TopVer) (a : IsActing s tx top) (key : Key) (keys : List Key) → StarterInAct past s →
      a.entry.keys ≡ key ∷ keys → Keeps s (after_send_prepares s tx top a.entry (primaries_at s (key ∷ keys)) (shares_of s.installed (key ∷ keys)))
  prepared_good s tx top a key keys n has_keys i =
      subst (λ z. Good m around (with_outs (on_entry s tx f z) (prepare_outs s tx top a.entry shares nodes))) (sym a.there)
      (sents_good s2 (prepare_outs s tx top a.entry shares nodes) (prepare_each s2 tx top a.entry e2 shares nodes own now refl refl
      (named_own s tx a.entry a.there n) changed) changed)
    where
      nodes : List NodeId
      nodes = primaries_at s (key ∷ keys)

      shares : List Share
      shares = shares_of s.installed (key ∷ keys)

      f : TxEntry → TxEntry
      f e = record e { state = state.Preparing; asked = nodes; awaited = nodes; shares = shares }

      e2 : TxEntry
      e2 = f a.entry

      s2 : NodeState
      s2 = with_entry s tx e2

      own : tx.node ≡ s.me
      own = starter s tx a.entry a.there n

      now : (view around s2).entry tx.node tx ≡ Some e2
      now = own_entry s2 tx own ∙ laws.at_put_same tx_cmp tx_total s.txs tx e2

      changed : Good m around s2
      changed = active_good s tx top a e2 n refl refl i

  finish_each : (s : NodeState) (tx : TxId) (commit : Bool) (e : TxEntry) → IsNamed ((view around s).session_state tx.node tx.session) tx →
      is_live (view around s).entry tx ≡ false → Each (Plain s) (decision_outs s tx commit e)
  finish_each s tx commit e named over =
      both_each s (outs_to (live_among s e.asked) (msg.Finish tx commit)) (finishes_for_lost s tx commit e.shares (lost_among s e.asked))
      (to_each s (live_among s e.asked) (msg.Finish tx commit) (λ n. record { named = named; over = over }) refl)
      (lost_each (lost_among s e.asked))
    where
      lost_each : (nodes : List NodeId) → Each (Plain s) (finishes_for_lost s tx commit e.shares nodes)
      lost_each [] = λ o there. absurd there
      lost_each (node ∷ more) = both_each s (backup_finish_outs tx node commit (live_holders s e.shares node))
          (finishes_for_lost s tx commit e.shares more)
          (to_each s (live_holders s e.shares node) (msg.BackupFinish tx node commit) (λ n. tt) refl) (lost_each more)

  decided_state_over : (commit : Bool) → is_open (decided_state commit) ≡ false
  decided_state_over true = refl
  decided_state_over false = refl

  -- the decision, where the entry may have a fault now
  decision_good : (s : NodeState) (tx : TxId) (e : TxEntry) (commit : Bool) → tx.node ≡ s.me → entry_of s tx ≡ Some e →
      IsNamed ((view around s).session_state tx.node tx.session) tx → Keeps s (after_decide_of s tx commit (Some e))
  decision_good s tx e commit own there named i =
      subst (λ z. Good m around (with_outs (with_note (on_entry s tx (decided_entry s commit) z) (note.Decide tx commit))
      (decision_outs s tx commit e))) (sym there)
      (sents_good s3 (decision_outs s tx commit e) (finish_each s3 tx commit e named over) (noting_good m around s2 (note.Decide tx commit)
      (over_good s tx e2 own (decided_state_over commit) i)))
    where
      e2 : TxEntry
      e2 = decided_entry s commit e

      s2 : NodeState
      s2 = with_entry s tx e2

      s3 : NodeState
      s3 = with_note s2 (note.Decide tx commit)

      over : is_live (view around s3).entry tx ≡ false
      over = ap undecided (own_entry s3 tx own ∙ laws.at_put_same tx_cmp tx_total s.txs tx e2) ∙ decided_state_over commit

  decided_good : (s : NodeState) (tx : TxId) (e : TxEntry) (commit : Bool) → StarterInAct past s → entry_of s tx ≡ Some e →
      Keeps s (after_decide_of s tx commit (Some e))
  decided_good s tx e commit n there i = decision_good s tx e commit (starter s tx e there n) there (named_own s tx e there n) i

  -- only the fault differs
  faulty_good : (s : NodeState) (tx : TxId) (e : TxEntry) (f : Fault) → StarterInAct past s → entry_of s tx ≡ Some e → is_open e.state ≡ true →
      Keeps s (with_entry s tx (record e { fault = Some f }))
  faulty_good s tx e f n there opened i =
      let own = starter s tx e there n in
      let e2 : TxEntry = record e { fault = Some f } in
      entry_good s tx e2 own
      (λ y is open_y. let same : e2 ≡ y = cc in subst (λ z. (x : TxEntry) × Follows m (view around s) tx x z) same (
        e,
        record {
          was = own_entry s tx own ∙ there;
          opened = opened;
          same_mode = refl;
          keys = λ k h. h;
          preparing = λ p. p;
          waits_still =
              λ k waiting. inl (record { waiting = waiting.waiting; on = waiting.on });
        },
      ))
      (λ active locks k c has_it first. go k c (i.locks.keys tx e (own_entry s tx own ∙ there) opened locks k c has_it first)) i
    where
      go : (k : Key) (c : NodeId) → KeyFact e ((view around s).session_state tx.node tx.session) ((view around s).queue c k) tx k →
          KeyFact (record e { fault = Some f }) ((view around s).session_state tx.node tx.session) ((view around s).queue c k) tx k
      go k c (inl owns) = inl owns
      go k c (inr waiting) = inr (record { waiting = waiting.waiting; on = waiting.on })

  failed_good : (s : NodeState) (tx : TxId) (e : TxEntry) (f : Fault) → StarterInAct past s → entry_of s tx ≡ Some e → is_open e.state ≡ true →
      Keeps s (after_fail s tx f)
  failed_good s tx e f n there opened i =
      let e1 : TxEntry = record e { fault = Some f } in
      let s1 : NodeState = with_note (with_entry s tx e1) (note.Fault tx f) in
      let there1 : entry_of s1 tx ≡ Some e1 = laws.at_put_same tx_cmp tx_total s.txs tx e1 in
      subst (λ z. Good m around (after_decide (with_note (on_entry s tx (λ (x : TxEntry). record x { fault = Some f }) z) (note.Fault tx f)) tx
      false)) (sym there)
      (subst (λ z. Good m around (after_decide_of s1 tx false z)) (sym there1)
      (decision_good s1 tx e1 false (starter s tx e there n) there1 (named_own s tx e there n)
      (noting_good m around (with_entry s tx e1) (note.Fault tx f) (faulty_good s tx e f n there opened i))))

  -- a search goes on waiting
  searched_good : (s : NodeState) (tx : TxId) (e : TxEntry) (search : Search) → StarterInAct past s → entry_of s tx ≡ Some e →
      waits_for_lock e.state ≡ true → Keeps s (with_search s tx search)
  searched_good s tx e search n there waiting i =
      subst (λ z. Good m around (on_entry s tx (λ (e : TxEntry). record e { state = state.Searching; search = Some search }) z)) (sym there)
      (entry_good s tx e2 own
      (λ y is open_y. let same : e2 ≡ y = cc in subst (λ z. (x : TxEntry) × Follows m (view around s) tx x z) same (
        e,
        record {
          was = own_entry s tx own ∙ there;
          opened = opened e.state waiting;
          same_mode = refl;
          keys = λ k h. h;
          preparing =
              λ p. absurd (let w : waits_for_lock state.Preparing ≡ true = subst (λ st. waits_for_lock st ≡ true) p waiting in cc);
          waits_still =
              λ k w. inl (record { waiting = refl; on = w.on });
        },
      ))
      (λ active locks k c has_it first. go k c (i.locks.keys tx e (own_entry s tx own ∙ there) (opened e.state waiting) locks k c has_it first)) i)
    where
      e2 : TxEntry
      e2 = record e { state = state.Searching; search = Some search }

      own : tx.node ≡ s.me
      own = starter s tx e there n

      opened : (st : TxState) → waits_for_lock st ≡ true → is_open st ≡ true
      opened state.Idle w = refl
      opened state.Active w = refl
      opened state.Waiting w = refl
      opened state.Searching w = refl
      opened state.Preparing w = refl
      opened state.Committing w = absurd (cc)
      opened state.RollingBack w = absurd (cc)
      opened state.Ended w = absurd (cc)

      go : (k : Key) (c : NodeId) → KeyFact e ((view around s).session_state tx.node tx.session) ((view around s).queue c k) tx k →
          KeyFact e2 ((view around s).session_state tx.node tx.session) ((view around s).queue c k) tx k
      go k c (inl owns) = inl owns
      go k c (inr w) = inr (record { waiting = refl; on = w.on })

  started_good : (s : NodeState) (tx : TxId) (e : TxEntry) → StarterInAct past s → entry_of s tx ≡ Some e → e.state ≡ state.Idle →
      Keeps s (with_note (with_entry s tx (record e { top = Some s.seen; state = state.Active })) (note.Start tx s.seen))
  started_good s tx e n there idle i =
      let own = starter s tx e there n in
      let e2 : TxEntry = record e { top = Some s.seen; state = state.Active } in
      noting_good m around (with_entry s tx e2) (note.Start tx s.seen)
      (entry_good s tx e2 own
      (calm_steady s tx e e2 own there (ap is_open idle) (ap waits_for_lock idle) refl (λ k h. h) (λ p. absurd (cc)))
      (active_keys s tx e e2 own there (ap is_open idle) (ap waits_for_lock idle) refl refl i) i)

  -- an entry changes in neither its state nor its keys
  pub same_good : (s : NodeState) (tx : TxId) (e e2 : TxEntry) → tx.node ≡ s.me → entry_of s tx ≡ Some e → e2.state ≡ e.state → e2.mode ≡ e.mode →
      e2.keys ≡ e.keys → Good m around s → Good m around (with_entry s tx e2)
  same_good s tx e e2 own there st mode keys i =
      let old = own_entry s tx own ∙ there in
      entry_good s tx e2 own
      (λ y is open_y. let same : e2 ≡ y = cc in subst (λ z. (x : TxEntry) × Follows m (view around s) tx x z) same (
        e,
        record {
          was = old;
          opened = ap is_open (sym st) ∙ ap (λ (z : TxEntry). is_open z.state) same ∙ open_y;
          same_mode = mode;
          keys =
              λ k h. subst (λ z. has key_cmp z k ≡ true) (sym keys) h;
          preparing = λ p. st ∙ p;
          waits_still =
              λ k w. inl (record { waiting = ap waits_for_lock st ∙ w.waiting; on = w.on });
        },
      ))
      (λ active locks k c has_it first. go k c (i.locks.keys tx e old (ap is_open (sym st) ∙ active) (ap is_locking (sym mode) ∙ locks) k c
      (subst (λ z. has key_cmp z k ≡ true) keys has_it) first)) i
    where
      go : (k : Key) (c : NodeId) → KeyFact e ((view around s).session_state tx.node tx.session) ((view around s).queue c k) tx k →
          KeyFact e2 ((view around s).session_state tx.node tx.session) ((view around s).queue c k) tx k
      go k c (inl owns) = inl owns
      go k c (inr w) = inr (record { waiting = ap waits_for_lock st ∙ w.waiting; on = w.on })

  -- a decided transaction awaits a lost node no more
  left_good : (s : NodeState) (tx : TxId) (e : TxEntry) (node : NodeId) → StarterInAct past s → entry_of s tx ≡ Some e →
      Keeps s (after_left_decided s tx node e)
  left_good s tx e node n there i =
      sents_good (with_entry_left s tx node) (outs_after_left s tx node e) (by (has node_cmp e.awaited node))
      (subst (λ (z : Option TxEntry). Good m around (on_entry s tx (entry_after_left s node) z)) (sym there)
      (same_good s tx e (entry_after_left s node e) (starter s tx e there n) there refl refl refl i))
    where
      by : (c : Bool) → Each (Plain (with_entry_left s tx node)) (if c then backup_finish_outs tx node (is_committing e.state)
          (live_holders s e.shares node) else [])
      by true = to_each (with_entry_left s tx node) (live_holders s e.shares node) (msg.BackupFinish tx node (is_committing e.state)) (λ x. tt) refl
      by false = λ x there. absurd there

  backed_good : (s : NodeState) (from : NodeId) (tx : TxId) (primary : NodeId) (e : TxEntry) → StarterInAct past s → entry_of s tx ≡ Some e →
      Keeps s (after_backup_finished_at_starter s from tx primary)
  backed_good s from tx primary e n there i =
      let f : TxEntry → TxEntry =
      λ (x : TxEntry). record x { backups = without_member share_cmp x.backups (record { holder = from; primary = primary }) } in
      subst (λ (z : Option TxEntry). Good m around (on_entry s tx f z)) (sym there)
      (same_good s tx e (f e) (starter s tx e there n) there refl refl refl i)

  pub lock_kit : (most : ℕ) → StarterKit past most Keeps
  lock_kit most = record {
    nothing = λ s i. i;
    andthen = λ a b c first second i. second (first i);
    noted = λ s r n aside i. noting_good m around s r i;
    near_cache = λ s key near i. record { locks = i.locks; up = i.up; installed = i.installed; seen = i.seen; shares_up = i.shares_up };
    session_state = session_state_good;
    opened = λ s session d x deadline block n here none room. opened_good s session d x deadline block n here none (few most d room.0 room.1);
    started = λ s tx e n there idle free. started_good s tx e n there idle;
    wrote = λ s tx top a key new n known i.
        let f : TxEntry → TxEntry = λ (e : TxEntry). record e { writes = put key_cmp e.writes key new } in
        subst (λ z. Good m around (on_entry s tx f z)) (sym a.there) (active_good s tx top a (f a.entry) n refl refl i);
    outcome = λ s tx top a x n i.
        let f : TxEntry → TxEntry = λ (e : TxEntry). record e { outcome = Some x } in
        subst (λ z. Good m around (on_entry s tx f z)) (sym a.there) (active_good s tx top a (f a.entry) n refl refl i);
    touched = λ s tx top a key n free i.
        let f : TxEntry → TxEntry = λ (e : TxEntry). record e { keys = with_member key_cmp e.keys key } in
        subst (λ z. Good m around (on_entry s tx f z)) (sym a.there) (touched_good s tx top a key (f a.entry) n free refl refl i);
    hit = λ s tx top a key x n free i.
        let s1 : NodeState = with_near s key (near_front (near_of s key) x) in
        let b : IsActing s1 tx top = acts_moved s s1 tx top refl refl a in
        let f : TxEntry → TxEntry = λ (e : TxEntry). record e { reads = put key_cmp e.reads key (record { found = Some x.value; ver = x.ver }) } in
        let n1 : StarterInAct past s1 = record { up = n.up; entries = n.entries; sessions = n.sessions; fresh = n.fresh } in
        subst (λ z. Good m around (on_entry s1 tx f z)) (sym a.there) (active_good s1 tx top b (f a.entry) n1 refl refl
        (record { locks = i.locks; up = i.up; installed = i.installed; seen = i.seen; shares_up = i.shares_up }));
    asked_value = λ s tx top a key primary near n free first i.
        let f : TxEntry → TxEntry = λ (e : TxEntry). record e {
          keys = with_member key_cmp e.keys key;
          getting =
              Some (record { key = key; near = near });
        } in
        subst (λ z. Good m around (with_out (on_entry s tx f z) primary (msg.Get tx key near))) (sym a.there)
        (plain_good (with_entry s tx (f a.entry)) primary (msg.Get tx key near) tt refl (touched_good s tx top a key (f a.entry) n free refl refl i));
    asked_lock = asked_lock_good;
    prepared = prepared_good;
    decided = λ s tx e commit n there opened may i. decided_good s tx e commit n there i;
    failed = failed_good;
    backed = backed_good;
    searched = searched_good;
    edges_asked = λ s tx round known nodes i. sents_good s (outs_to nodes (msg.Edges tx round known))
        (to_each s nodes (msg.Edges tx round known) (λ n. tt) refl) i;
    left = λ s tx e node n there over i. left_good s tx e node n there i;
    fault_kept = λ s tx e n there rolls awaited backups faulty i. over_good s tx (record e { state = state.Ended }) (starter s tx e there n) refl i;
    closed = closed_good;
  }
    where
      few : (k : ℕ) (d : SessionState) → d.started < k → k ≤ 2 ^ 62 → d.started < 2 ^ 64 - 1
      few k d below bound = omega (arith, below, bound)
