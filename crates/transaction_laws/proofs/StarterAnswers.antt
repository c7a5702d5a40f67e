-- What a starter does with answers is made of the atoms of the near side.
use Rattle.ignite_types.proofs.NameLaws.{tx_total}
use Rattle.act_rows.specs.Accesses.{access_key, after_known_access, after_resume, after_resume_with, is_pending_access, is_that_key, read_of, with_found_read, with_tx_state}
use Rattle.act_rows.specs.Steps.{entry_of, on_entry, session_state_of, with_entry, with_note}
use Rattle.part_model.specs.Copies.{Found}
use Rattle.ignite_types.specs.Names.{key_cmp, same_key, tx_cmp}
use Rattle.ignite_types.specs.declared.answer.Fault.TheVariants as fault
use Rattle.ignite_types.specs.declared.journal.Rec.TheVariants as note
use Rattle.ignite_types.specs.declared.journal.Rec.{Rec}
use Rattle.ignite_types.specs.declared.message.Message.TheVariants as msg
use Rattle.ignite_types.specs.declared.names.NodeId.{NodeId}
use Rattle.ignite_types.specs.declared.names.TopVer.{TopVer}
use Rattle.ignite_types.specs.declared.names.TxId.{TxId}
use Rattle.ignite_types.specs.declared.scenario.Command.TheVariants as command
use Rattle.ignite_types.specs.declared.scenario.Command.{Command}
use Rattle.ignite_types.specs.declared.text.Key.{Key}
use Rattle.node_state.specs.declared.near.TxEntry.{TxEntry}
use Rattle.node_state.specs.declared.near.TxState.TheVariants as state
use Rattle.node_state.specs.declared.near.TxState.{TxState}
use Rattle.node_state.specs.Node.{NodeState}
use Rattle.node_state.specs.declared.session.SessionState.{SessionState}
use Rattle.ordered_set.specs.Members.{has}
use Rattle.ordered_table.proofs.Laws as laws
use Rattle.ordered_table.specs.Entries.{put}
use Rattle.std.proofs.Common.{◌≡◌, ◌⊎◌, inl, inr, List, [], ◌∷◌, ◌++◌, Bool, true, false, if◌then◌else◌, Option, Some, None, refl, ap, sym, subst, ◌∙◌, ℕ, length, ◌&&◌, nat_eq}
use Rattle.std.specs.Option.{is_none, is_some, option_to_list, option_and_then}
use Rattle.transaction_laws.proofs.StarterAtoms as atoms
use Rattle.transaction_laws.proofs.StarterAtoms.{Goes, Still, active_change, active_shape, active_is_open}
use Rattle.transaction_laws.proofs.StarterAtoms.{no_more}
use Rattle.transaction_laws.proofs.StarterFacts.{starter_entry}
use Rattle.transaction_laws.specs.StarterStates.{is_open}
use Rattle.transaction_laws.specs.StarterFacts.{IsActing, StarterInAct, HasShape, is_busy}
use Rattle.transaction_laws.specs.StarterFacts.{SessionFitsAt, SessionFits, EntryFits, KnowsKey, IsResting, decided_as, is_awaiting, is_resting, tx_of}
use Rattle.transaction_laws.specs.StarterKits.{StarterKit}
use Rattle.act_rows.specs.Accesses.{after_finished_at_starter, after_finished_in, after_get_ok, after_get_ok_in, after_get_ok_of, after_keep_near, after_lock_ok, after_lock_ok_in, after_lock_ok_of, after_prepare_fail, after_prepare_fail_in, after_prepared, after_prepared_in, tx_state_of, without_awaited, without_getting}
use Rattle.act_rows.specs.Searches.{after_begin_search, after_edges_ok, after_edges_ok_in, after_expire, after_expire_in, after_gather, after_next_round, after_round, after_search, after_search_clear, is_overdue, is_reached, live_deadline, may_time_out, new_search, search_of_next_round, search_with_answer, with_named, with_search}
use Rattle.std.specs.Option.{option_map}
use Rattle.std.specs.Prelude.{unwrap_or}
use Rattle.part_model.specs.Cycles.{cycle_through}
use Rattle.part_model.specs.Directory.{node_set}
use Rattle.ignite_types.specs.Names.{node_cmp}
use Rattle.ignite_types.specs.declared.answer.Fail.{Fail}
use Rattle.ignite_types.specs.declared.message.Edge.{Edge}
use Rattle.ignite_types.specs.declared.message.Wait.{Wait}
use Rattle.node_state.specs.declared.near.Getting.{Getting}
use Rattle.node_state.specs.declared.near.Search.{Search}
use Rattle.ordered_set.specs.Members.{without_member}
use Rattle.transaction_laws.specs.StarterStates.{waits_for_lock}
use Rattle.transaction_laws.specs.StarterKits.{AnswerKit, IsIgnored, is_finishing}
use Rattle.scenes.specs.Rows.{MessageInHand}
use Rattle.transaction_laws.proofs.StarterAccesses.{acts_moved}
use Rattle.std.specs.Prelude.{◌||◌}
use Rattle.transaction_laws.proofs.StarterAccesses as walk

-- an entry changes in what its state does not speak of
pub same_core : (past : List Rec) (s : NodeState) (tx : TxId) (e e2 : TxEntry) → StarterInAct past s →
    entry_of s tx ≡ Some e → e2.state ≡ e.state → e2.top ≡ e.top → e2.getting ≡ e.getting → e2.fault ≡ e.fault →
    e2.keys ≡ e.keys → HasShape e2.state e2 → StarterInAct past (with_entry s tx e2)
same_core past s tx e e2 n there st top getting fault keys shape =
    let was = no_more past s n tx e there in
    starter_entry s.me (past ++ s.noted) (past ++ s.noted) s.txs s.session_states tx e e2 there
    (record {
      others = λ u ne. (refl, refl);
      decided = was.decided ∙ ap decided_as (sym st);
      started = was.started ∙ ap option_to_list (sym top);
      shape = shape;
      asked = λ awaiting key on. subst (λ z. has key_cmp z key ≡ true) (sym keys)
          (was.asked (subst (λ z. (z || is_some e.getting) ≡ true) (ap waits_for_lock st)
          (subst (λ z. (waits_for_lock e2.state || is_some z) ≡ true) getting awaiting)) key on);
      rests = λ d here free before none. let old = before (sym fault ∙ none) in
          record { resting = ap is_resting st ∙ old.resting; no_get = getting ∙ old.no_get };
      idle = λ idle. sym st ∙ idle;
    }) n

-- a transaction at work takes what it waited for, and is active
becomes_active : (past : List Rec) (s : NodeState) (tx : TxId) (e e2 : TxEntry) → StarterInAct past s →
    entry_of s tx ≡ Some e → decided_as e.state ≡ [] → e2.state ≡ state.Active → e2.top ≡ e.top → e2.getting ≡ None →
    HasShape state.Active e2 → StarterInAct past (with_entry s tx e2)
becomes_active past s tx e e2 n there undecided st top no_get shape =
    let was = no_more past s n tx e there in
    starter_entry s.me (past ++ s.noted) (past ++ s.noted) s.txs s.session_states tx e e2 there
    (record {
      others = λ u ne. (refl, refl);
      decided = was.decided ∙ undecided ∙ ap decided_as (sym st);
      started = was.started ∙ ap option_to_list (sym top);
      shape = subst (λ z. HasShape z e2) (sym st) shape;
      asked = λ awaiting. absurd (let none : is_awaiting e2 ≡ false = rw (st, no_get) refl in cc);
      rests = λ d here free before none. record { resting = ap is_resting st; no_get = no_get };
      idle = λ idle. absurd (cc);
    }) n

-- a transaction that awaits something has its session's command at work
awaiting_busy : (past : List Rec) (s : NodeState) (tx : TxId) (e : TxEntry) (d : SessionState) → StarterInAct past s →
    entry_of s tx ≡ Some e → session_state_of s tx.session ≡ Some d → e.fault ≡ None → (IsResting e → ⊥) → is_busy d ≡ true
awaiting_busy past s tx e d n there here faultless awaits = by (is_busy d) refl
  where
    by : (b : Bool) → is_busy d ≡ b → b ≡ true
    by true free = refl
    by false free =
        let f : SessionFits s.me s.txs tx.session d = subst (SessionFitsAt s.me s.txs tx.session) here (n.sessions tx.session)
        in
        absurd (awaits (f.rests free tx e (ap tx_of (sym here) ∙ (no_more past s n tx e there).at_home) there faultless))

-- what the entry becomes, by the pending command
abbrev pub found_entry : TxEntry → Key → Found → Command → TxEntry
found_entry e key found (command.Get k) = record e { reads = put key_cmp e.reads key (read_of found) }
found_entry e key found (command.Add k amount) = record e { reads = put key_cmp e.reads key (read_of found) }
found_entry e key found _ = e

pub keeps_found_is : (s : NodeState) (tx : TxId) (e : TxEntry) (key : Key) (found : Found) (c : Command) →
    entry_of s tx ≡ Some e → (with_found_read s tx key found c ≡ with_entry s tx (found_entry e key found c))
    ⊎ ((with_found_read s tx key found c ≡ s) × (found_entry e key found c ≡ e))
keeps_found_is s tx e key found (command.Get k) there =
    inl (ap (on_entry s tx (λ (x : TxEntry). record x { reads = put key_cmp x.reads key (read_of found) })) there)
keeps_found_is s tx e key found (command.Add k amount) there =
    inl (ap (on_entry s tx (λ (x : TxEntry). record x { reads = put key_cmp x.reads key (read_of found) })) there)
keeps_found_is s tx e key found c there = inr (refl, refl)

pub near_kept_same : (s : NodeState) (key : Key) (near : Bool) (found : Found) →
    ((after_keep_near s key near found).txs ≡ s.txs) × ((after_keep_near s key near found).session_states ≡ s.session_states)
    × ((after_keep_near s key near found).me ≡ s.me) × ((after_keep_near s key near found).noted ≡ s.noted)
near_kept_same s key true (Some (value, ver)) = (refl, refl, refl, refl)
near_kept_same s key true None = (refl, refl, refl, refl)
near_kept_same s key false found = (refl, refl, refl, refl)

-- only a transaction that is searched for has a search
pub no_search : (st : TxState) (e : TxEntry) → HasShape st e → is_some e.search ≡ true → st ≡ state.Searching
no_search state.Searching e shape searches = refl
no_search state.Idle e shape searches = absurd (let none : is_some e.search ≡ false = ap is_some shape.3 in cc)
no_search state.Active e shape searches = absurd (let none : is_some e.search ≡ false = ap is_some shape.2 in cc)
no_search state.Waiting e shape searches = absurd (let none : is_some e.search ≡ false = ap is_some shape.3 in cc)
no_search state.Preparing e shape searches = absurd (let none : is_some e.search ≡ false = ap is_some shape.3 in cc)
no_search state.Committing e shape searches = absurd (let none : is_some e.search ≡ false = ap is_some shape.2 in cc)
no_search state.RollingBack e shape searches = absurd (let none : is_some e.search ≡ false = ap is_some shape.1 in cc)
no_search state.Ended e shape searches = absurd (let none : is_some e.search ≡ false = ap is_some shape.2 in cc)

module _ (past : List Rec) (most : ℕ) (R : NodeState → NodeState → Type 0) (H : MessageInHand → NodeState → NodeState →
    Type 0) (kit : StarterKit past most R) (answers : AnswerKit past R H) where
  abbrev G : NodeState → NodeState → Type 0
  G = Goes past most R kit

  -- with an answer in hand
  abbrev pub Takes : MessageInHand → NodeState → NodeState → Type 0
  Takes h s s2 = StarterInAct past s2 × H h s s2

  then_goes : (h : MessageInHand) (a b c : NodeState) → Takes h a b → (StarterInAct past b → G b c) → Takes h a c
  then_goes h a b c first second = let rest = second first.0 in (rest.0, answers.after h a b c first.1 rest.1)

  ignores : (s : NodeState) (h : MessageInHand) → StarterInAct past s → IsIgnored s h.message → Takes h s s
  ignores s h n why = (n, answers.ignored s h n why)

  -- LockOk

  abbrev LockOk : NodeId → TxId → Key → Found → MessageInHand
  LockOk from tx key found = record { from = from; message = msg.LockOk tx key found }

  found_shape : (e : TxEntry) (key : Key) (found : Found) (c : Command) → HasShape state.Active e → e.state ≡ state.Active →
      e.getting ≡ None → (HasShape state.Active (found_entry e key found c))
      × ((found_entry e key found c).state ≡ state.Active) × ((found_entry e key found c).top ≡ e.top)
      × ((found_entry e key found c).getting ≡ None)
  found_shape e key found (command.Get k) shape active none = (shape, active, refl, none)
  found_shape e key found (command.Add k amount) shape active none = (shape, active, refl, none)
  found_shape e key found c shape active none = (shape, active, refl, none)

  -- the read is kept, and the transaction is active
  keeps_found_acts : (s : NodeState) (tx : TxId) (top : TopVer) (key : Key) (found : Found) (c : Command)
      (a : IsActing s tx top) → StarterInAct past s → StarterInAct past (with_found_read s tx key found c)
      × IsActing (with_found_read s tx key found c) tx top
  keeps_found_acts s tx top key found c a n = go (keeps_found_is s tx a.entry key found c a.there)
    where
      shape : (HasShape state.Active (found_entry a.entry key found c))
          × ((found_entry a.entry key found c).state ≡ state.Active) × ((found_entry a.entry key found c).top ≡ a.entry.top)
          × ((found_entry a.entry key found c).getting ≡ None)
      shape = found_shape a.entry key found c
          (subst (λ st. HasShape st a.entry) a.active (no_more past s n tx a.entry a.there).shape) a.active a.no_get

      go : (with_found_read s tx key found c ≡ with_entry s tx (found_entry a.entry key found c))
          ⊎ ((with_found_read s tx key found c ≡ s) × (found_entry a.entry key found c ≡ a.entry)) →
          StarterInAct past (with_found_read s tx key found c) × IsActing (with_found_read s tx key found c) tx top
      go (inl is) = subst (λ z. StarterInAct past z × IsActing z tx top) (sym is)
          (active_change past s tx top a (found_entry a.entry key found c) n (shape.1 ∙ sym a.active) shape.2 shape.0 shape.3)
      go (inr is) = subst (λ z. StarterInAct past z × IsActing z tx top) (sym is.0) (n, a)

  -- a read changes no key
  found_keys : (e : TxEntry) (key : Key) (found : Found) (c : Command) → (found_entry e key found c).keys ≡ e.keys
  found_keys e key found (command.Get k) = refl
  found_keys e key found (command.Add k amount) = refl
  found_keys e key found c = refl

  found_there : (s : NodeState) (tx : TxId) (e : TxEntry) (key : Key) (found : Found) (c : Command) → entry_of s tx ≡ Some e →
      entry_of (with_found_read s tx key found c) tx ≡ Some (found_entry e key found c)
  found_there s tx e key found c there = go (keeps_found_is s tx e key found c there)
    where
      go : (with_found_read s tx key found c ≡ with_entry s tx (found_entry e key found c))
          ⊎ ((with_found_read s tx key found c ≡ s) × (found_entry e key found c ≡ e)) →
          entry_of (with_found_read s tx key found c) tx ≡ Some (found_entry e key found c)
      go (inl is) = ap (λ (z : NodeState). entry_of z tx) is ∙ laws.at_put_same tx_cmp tx_total s.txs tx
          (found_entry e key found c)
      go (inr is) = ap (λ (z : NodeState). entry_of z tx) is.0 ∙ there ∙ ap Some (sym is.1)

  found_knows : (s : NodeState) (tx : TxId) (top : TopVer) (key : Key) (found : Found) (c c2 : Command)
      (a : IsActing s tx top) → KnowsKey a.entry c2 → (b : IsActing (with_found_read s tx key found c) tx top) →
      KnowsKey b.entry c2
  found_knows s tx top key found c c2 a known b k of_k =
      let there = found_there s tx a.entry key found c a.there in
      let same : found_entry a.entry key found c ≡ b.entry = let mine = b.there in cc in
      subst (λ (e : TxEntry). has key_cmp e.keys k ≡ true) same
      (subst (λ z. has key_cmp z k ≡ true) (sym (found_keys a.entry key found c)) (known k of_k))

  pending_on : (k : Key) (d : SessionState) (c : Command) → d.pending ≡ Some c → access_key c ≡ Some k →
      is_pending_access k (Some d) ≡ true
  pending_on k d c pending of_k = subst (λ z. is_that_key k (option_and_then access_key z) ≡ true) (sym pending)
      (rw of_k (walk.key_equiv.refl k))

  or_true : (b : Bool) → (b || true) ≡ true
  or_true true = refl
  or_true false = refl

  got_awaits : (e : TxEntry) → is_some e.getting ≡ true → is_awaiting e ≡ true
  got_awaits e gets = rw gets (or_true (waits_for_lock e.state))

  lock_ok_goes_on : (s : NodeState) (from : NodeId) (tx : TxId) (key : Key) (found : Found) (e : TxEntry) (d : SessionState)
      (top : TopVer) (c : Option Command) → entry_of s tx ≡ Some e → e.state ≡ state.Waiting → e.top ≡ Some top →
      session_state_of s tx.session ≡ Some d → d.pending ≡ c → is_pending_access key (Some d) ≡ true → StarterInAct past s
      → Takes (LockOk from tx key found) s (after_resume_with (with_tx_state s tx state.Active) tx top d.block key found c)
  lock_ok_goes_on s from tx key found e d top None there waiting fixed here pending on n =
      absurd (let gone : false ≡ true = subst (λ z. is_that_key key (option_and_then access_key z) ≡ true) pending on in cc)
  lock_ok_goes_on s from tx key found e d top (Some c) there waiting fixed here pending on n =
      let e2 : TxEntry = record e { state = state.Active } in
      let f : TxEntry → TxEntry = λ (x : TxEntry). record x { state = state.Active } in
      let shape : HasShape state.Waiting e = subst (λ st. HasShape st e) waiting (no_more past s n tx e there).shape in
      let s1 : NodeState = with_entry s tx e2 in
      let n1 : StarterInAct past s1 = becomes_active past s tx e e2 n there (ap decided_as waiting) refl refl shape.2
      (shape.0, shape.1, shape.3) in
      let a : IsActing s1 tx top = record {
        entry = e2;
        there = laws.at_put_same tx_cmp tx_total s.txs tx e2;
        active = refl;
        version = fixed;
        no_get = shape.2;
        session_state = d;
        session_state_there = here;
        busy = awaiting_busy past s tx e d n there here shape.1 (λ r. let resting = r.resting in
            let w : is_resting e.state ≡ false = ap is_resting waiting in cc);
      } in
      let found_here = keeps_found_acts s1 tx top key found c a n1 in
      let taken : H (LockOk from tx key found) s (with_found_read s1 tx key found c) =
      subst (λ z. H (LockOk from tx key found) s (with_found_read (on_entry s tx f z) tx key found c)) there
      (answers.lock_ok s from tx key found e d c n there waiting here pending on) in
      subst (λ z. Takes (LockOk from tx key found) s (after_known_access (with_found_read (on_entry s tx f z) tx key found c)
      tx top d.block c)) (sym there)
      (then_goes (LockOk from tx key found) s (with_found_read s1 tx key found c) _ (found_here.0, taken)
      (λ j. walk.does_known_goes past most R kit (with_found_read s1 tx key found c) tx top d.block c found_here.1
      (found_knows s1 tx top key found c c a (λ k of_k. (no_more past s n tx e there).asked (rw waiting refl) k
      (subst (λ z. is_pending_access k z ≡ true) (sym here) (pending_on k d c pending of_k))) found_here.1) j))

  -- the version and the session's state are there
  lock_ok_at : (s : NodeState) (from : NodeId) (tx : TxId) (key : Key) (found : Found) (e : TxEntry) (d : Option SessionState)
      (top : Option TopVer) → entry_of s tx ≡ Some e → e.state ≡ state.Waiting → e.top ≡ top →
      session_state_of s tx.session ≡ d → is_pending_access key d ≡ true → StarterInAct past s
      → Takes (LockOk from tx key found) s (after_resume (with_tx_state s tx state.Active) tx key found top d)
  lock_ok_at s from tx key found e None top there waiting fixed here on n = absurd (cc)
  lock_ok_at s from tx key found e (Some d) None there waiting fixed here on n =
      absurd (let shape : HasShape state.Waiting e = subst (λ st. HasShape st e) waiting (no_more past s n tx e there).shape
      in let some : is_some e.top ≡ true = shape.0 in let none : is_some e.top ≡ false = ap is_some fixed in cc)
  lock_ok_at s from tx key found e (Some d) (Some top) there waiting fixed here on n =
      lock_ok_goes_on s from tx key found e d top d.pending there waiting fixed here refl on n

  lock_ok_by_state : (s : NodeState) (from : NodeId) (tx : TxId) (key : Key) (found : Found) (e : TxEntry) (st : TxState) →
      entry_of s tx ≡ Some e → e.state ≡ st → StarterInAct past s →
      Takes (LockOk from tx key found) s (after_lock_ok_in s tx key found e st)
  lock_ok_by_state s from tx key found e state.Waiting there is n =
      by (is_pending_access key (session_state_of s tx.session)) refl
    where
      by : (b : Bool) → is_pending_access key (session_state_of s tx.session) ≡ b →
          Takes (LockOk from tx key found) s (if b then after_resume (with_tx_state s tx state.Active) tx key found e.top
          (session_state_of s tx.session) else s)
      by true on = lock_ok_at s from tx key found e (session_state_of s tx.session) e.top there is refl refl on n
      by false off = ignores s (LockOk from tx key found) n (λ x stands waiting on. cc)
  lock_ok_by_state s from tx key found e st there is n =
      ignores s (LockOk from tx key found) n (λ x stands waiting on. absurd (let same : e ≡ x = cc in
      let st_x : e.state ≡ state.Waiting = ap (λ (z : TxEntry). z.state) same ∙ waiting in cc))

  pub lock_ok_takes : (s : NodeState) (from : NodeId) (tx : TxId) (key : Key) (found : Found) → StarterInAct past s →
      Takes (LockOk from tx key found) s (after_lock_ok s tx key found)
  lock_ok_takes s from tx key found n = by (entry_of s tx) refl
    where
      by : (e : Option TxEntry) → entry_of s tx ≡ e → Takes (LockOk from tx key found) s (after_lock_ok_of s tx key found e)
      by None there = ignores s (LockOk from tx key found) n (λ x stands. absurd (cc))
      by (Some e) there = lock_ok_by_state s from tx key found e e.state there refl n

  -- GetOk

  abbrev GetOk : NodeId → TxId → Key → Found → MessageInHand
  GetOk from tx key found = record { from = from; message = msg.GetOk tx key found }

  -- only an active transaction awaits a value
  getting_active : (st : TxState) (e : TxEntry) → HasShape st e → is_some e.getting ≡ true → st ≡ state.Active
  getting_active state.Active e shape gets = refl
  getting_active state.Idle e shape gets = absurd (let none : is_some e.getting ≡ false = ap is_some shape.2 in cc)
  getting_active state.Waiting e shape gets = absurd (let none : is_some e.getting ≡ false = ap is_some shape.2 in cc)
  getting_active state.Searching e shape gets = absurd (let none : is_some e.getting ≡ false = ap is_some shape.2 in cc)
  getting_active state.Preparing e shape gets = absurd (let none : is_some e.getting ≡ false = ap is_some shape.2 in cc)
  getting_active state.Committing e shape gets = absurd (let none : is_some e.getting ≡ false = ap is_some shape.1 in cc)
  getting_active state.RollingBack e shape gets = absurd (let none : is_some e.getting ≡ false = ap is_some shape.0 in cc)
  getting_active state.Ended e shape gets = absurd (let none : is_some e.getting ≡ false = ap is_some shape.1 in cc)

  near_moved : (s s2 : NodeState) → (s2.txs ≡ s.txs) × (s2.session_states ≡ s.session_states) × (s2.me ≡ s.me)
      × (s2.noted ≡ s.noted) → StarterInAct past s → StarterInAct past s2
  near_moved s s2 same n = rw (same.0, same.1, same.2, same.3) n

  get_ok_goes_on : (s : NodeState) (from : NodeId) (tx : TxId) (key : Key) (found : Found) (near : Bool) (e : TxEntry)
      (d : SessionState) (top : TopVer) (c : Option Command) → entry_of s tx ≡ Some e → is_some e.getting ≡ true →
      e.top ≡ Some top → session_state_of s tx.session ≡ Some d → d.pending ≡ c → StarterInAct past s
      → Takes (GetOk from tx key found) s (after_resume_with (after_keep_near (without_getting s tx) key near found) tx top
      d.block key found c)
  get_ok_goes_on s from tx key found near e d top c there gets fixed here pending n = by c pending
    where
      was : EntryFits s.me (past ++ s.noted) (session_state_of s tx.session) tx e
      was = no_more past s n tx e there

      active : e.state ≡ state.Active
      active = getting_active e.state e was.shape gets

      shape : HasShape state.Active e
      shape = subst (λ st. HasShape st e) active was.shape

      busy : is_busy d ≡ true
      busy = awaiting_busy past s tx e d n there here shape.1 (λ r. let none : is_some e.getting ≡ false =
          ap is_some r.no_get in cc)

      by : (c : Option Command) → d.pending ≡ c →
          Takes (GetOk from tx key found) s (after_resume_with (after_keep_near (without_getting s tx) key near found) tx top
          d.block key found c)
      by None pending = absurd (let free : false ≡ true =
          subst (λ z. (is_some z && is_none d.ready && is_none d.wake) ≡ true) pending busy in cc)
      by (Some c) pending =
          let f : TxEntry → TxEntry = λ (x : TxEntry). record x { getting = None } in
          let e2 : TxEntry = f e in
          let s0 : NodeState = with_entry s tx e2 in
          let s1 : NodeState = after_keep_near s0 key near found in
          let same = near_kept_same s0 key near found in
          let n0 : StarterInAct past s0 = becomes_active past s tx e e2 n there (ap decided_as active) active refl refl shape in
          let n1 : StarterInAct past s1 = near_moved s0 s1 same n0 in
          let a0 : IsActing s0 tx top = record {
            entry = e2;
            there = laws.at_put_same tx_cmp tx_total s.txs tx e2;
            active =
                active;
            version = fixed;
            no_get = refl;
            session_state = d;
            session_state_there = here;
            busy = busy;
          } in
          let a : IsActing s1 tx top = acts_moved s0 s1 tx top same.0 same.1 a0 in
          let found_here = keeps_found_acts s1 tx top key found c a n1 in
          let taken : H (GetOk from tx key found) s (with_found_read s1 tx key found c) =
          subst (λ z. H (GetOk from tx key found) s
          (with_found_read (after_keep_near (on_entry s tx f z) key near found) tx key found c)) there
          (answers.get_ok s from tx key found near e d c n there active gets here pending) in
          subst (λ z. Takes (GetOk from tx key found) s
          (after_known_access (with_found_read (after_keep_near (on_entry s tx f z) key near found) tx key found c) tx top
          d.block c)) (sym there)
          (then_goes (GetOk from tx key found) s (with_found_read s1 tx key found c) _ (found_here.0, taken)
          (λ j. walk.does_known_goes past most R kit (with_found_read s1 tx key found c) tx top d.block c found_here.1
          (found_knows s1 tx top key found c c a
          (λ k of_k. was.asked (got_awaits e gets) k (subst (λ z. is_pending_access k z ≡ true) (sym here)
          (pending_on k d c pending of_k))) found_here.1) j))

  get_ok_at : (s : NodeState) (from : NodeId) (tx : TxId) (key : Key) (found : Found) (near : Bool) (e : TxEntry)
      (d : Option SessionState) (top : Option TopVer) → entry_of s tx ≡ Some e → is_some e.getting ≡ true → e.top ≡ top →
      session_state_of s tx.session ≡ d → StarterInAct past s
      → Takes (GetOk from tx key found) s (after_resume (after_keep_near (without_getting s tx) key near found) tx key found
      top d)
  get_ok_at s from tx key found near e None top there gets fixed here n = absurd (let was = no_more past s n tx e there in
      let at = was.at_home in let gone : tx_of (session_state_of s tx.session) ≡ None = ap tx_of here in cc)
  get_ok_at s from tx key found near e (Some d) None there gets fixed here n =
      absurd (
      let was = no_more past s n tx e there in
      let shape : HasShape state.Active e = subst (λ st. HasShape st e) (getting_active e.state e was.shape gets) was.shape in
      let some : is_some e.top ≡ true = shape.0 in
      let none : is_some e.top ≡ false = ap is_some fixed in
      cc
      )
  get_ok_at s from tx key found near e (Some d) (Some top) there gets fixed here n =
      get_ok_goes_on s from tx key found near e d top d.pending there gets fixed here refl n

  pub get_ok_takes : (s : NodeState) (from : NodeId) (tx : TxId) (key : Key) (found : Found) → StarterInAct past s →
      Takes (GetOk from tx key found) s (after_get_ok s tx key found)
  get_ok_takes s from tx key found n = by (entry_of s tx) refl
    where
      by_getting : (e : TxEntry) (g : Option Getting) → entry_of s tx ≡ Some e → e.getting ≡ g →
          Takes (GetOk from tx key found) s (after_get_ok_in s tx key found e g)
      by_getting e None there is = ignores s (GetOk from tx key found) n tt
      by_getting e (Some g) there is = by_key (same_key g.key key)
        where
          by_key : (b : Bool) → Takes (GetOk from tx key found) s
              (if b then after_resume (after_keep_near (without_getting s tx) key g.near found) tx key found e.top
              (session_state_of s tx.session) else s)
          by_key true = get_ok_at s from tx key found g.near e (session_state_of s tx.session) e.top there
              (ap is_some is) refl refl n
          by_key false = ignores s (GetOk from tx key found) n tt

      by : (e : Option TxEntry) → entry_of s tx ≡ e → Takes (GetOk from tx key found) s (after_get_ok_of s tx key found e)
      by None there = ignores s (GetOk from tx key found) n tt
      by (Some e) there = by_getting e e.getting there refl

  -- Prepared, PrepareFail, Finished

  no_longer_near : (s : NodeState) (tx : TxId) (from : NodeId) (e : TxEntry) → entry_of s tx ≡ Some e →
      HasShape e.state (record e { awaited = without_member node_cmp e.awaited from }) → StarterInAct past s →
      StarterInAct past (without_awaited s tx from)
  no_longer_near s tx from e there shape n =
      subst (λ z. StarterInAct past
      (on_entry s tx (λ (x : TxEntry). record x { awaited = without_member node_cmp x.awaited from }) z)) (sym there)
      (same_core past s tx e (record e { awaited = without_member node_cmp e.awaited from }) n there refl refl refl refl refl
      shape)

  -- where a state is asked for, and no entry is there, it is Ended
  by_state_of : (P : TxState → Type 0) (s : NodeState) (tx : TxId) → (entry_of s tx ≡ None → P state.Ended) →
      ((e : TxEntry) → entry_of s tx ≡ Some e → (st : TxState) → e.state ≡ st → P st) → P (tx_state_of s tx)
  by_state_of P s tx none some = by (entry_of s tx) refl
    where
      by : (e : Option TxEntry) → entry_of s tx ≡ e → P (unwrap_or (option_map (λ (e : TxEntry). e.state) e) state.Ended)
      by None there = none there
      by (Some e) there = some e there e.state refl

  other_state : (s : NodeState) (tx : TxId) (e x : TxEntry) (st : TxState) → entry_of s tx ≡ Some e → e.state ≡ st →
      entry_of s tx ≡ Some x → x.state ≡ st
  other_state s tx e x st there is stands = let same : e ≡ x = cc in ap (λ (z : TxEntry). z.state) (sym same) ∙ is

  pub prepared_takes : (s : NodeState) (from : NodeId) (tx : TxId) → StarterInAct past s →
      Takes (record { from = from; message = msg.Prepared tx }) s (after_prepared s from tx)
  prepared_takes s from tx n =
      by_state_of (λ st. Takes h s (after_prepared_in s from tx st)) s tx
      (λ none. ignores s h n (λ x stands. absurd (cc)))
      some
    where
      h : MessageInHand
      h = record { from = from; message = msg.Prepared tx }

      some : (e : TxEntry) → entry_of s tx ≡ Some e → (st : TxState) → e.state ≡ st → Takes h s (after_prepared_in s from tx st)
      some e there state.Preparing is =
          let shape : HasShape state.Preparing e = subst (λ st. HasShape st e) is (no_more past s n tx e there).shape in (
            no_longer_near s tx from e there
                (subst (λ st. HasShape st (record e { awaited = without_member node_cmp e.awaited from })) (sym is) shape) n,
            answers.prepared_by s from tx e n there is,
          )
      some e there st is = ignores s h n (λ x stands preparing. absurd (let other = other_state s tx e x st there is stands in
          cc))

  pub prepare_fail_takes : (s : NodeState) (from : NodeId) (tx : TxId) (why : Fail) → StarterInAct past s →
      Takes (record { from = from; message = msg.PrepareFail tx why }) s (after_prepare_fail s tx why)
  prepare_fail_takes s from tx why n =
      by_state_of (λ st. Takes h s (after_prepare_fail_in s tx why st)) s tx
      (λ none. ignores s h n tt)
      some
    where
      h : MessageInHand
      h = record { from = from; message = msg.PrepareFail tx why }

      some : (e : TxEntry) → entry_of s tx ≡ Some e → (st : TxState) → e.state ≡ st →
          Takes h s (after_prepare_fail_in s tx why st)
      some e there state.Preparing is =
          then_goes h s s _ (ignores s h n tt) (λ j. atoms.fails_goes past most R kit s tx e (fault.Check why) there
          (ap is_open is) j)
      some e there st is = ignores s h n tt

  pub finished_takes : (s : NodeState) (from : NodeId) (tx : TxId) → StarterInAct past s →
      Takes (record { from = from; message = msg.Finished tx }) s (after_finished_at_starter s from tx)
  finished_takes s from tx n =
      by_state_of (λ st. Takes h s (after_finished_in s from tx st)) s tx
      (λ none. ignores s h n (λ x stands. absurd (cc)))
      some
    where
      h : MessageInHand
      h = record { from = from; message = msg.Finished tx }

      some : (e : TxEntry) → entry_of s tx ≡ Some e → (st : TxState) → e.state ≡ st → Takes h s (after_finished_in s from tx st)
      some e there state.Committing is =
          let shape : HasShape state.Committing e = subst (λ st. HasShape st e) is (no_more past s n tx e there).shape in (
            no_longer_near s tx from e there
                (subst (λ st. HasShape st (record e { awaited = without_member node_cmp e.awaited from })) (sym is) shape) n,
            answers.finished_by s from tx e n there (ap is_finishing is),
          )
      some e there state.RollingBack is =
          let shape : HasShape state.RollingBack e = subst (λ st. HasShape st e) is (no_more past s n tx e there).shape in (
            no_longer_near s tx from e there
                (subst (λ st. HasShape st (record e { awaited = without_member node_cmp e.awaited from })) (sym is) shape) n,
            answers.finished_by s from tx e n there (ap is_finishing is),
          )
      some e there state.Idle is = ignores s h n (λ x stands. ap is_finishing (other_state s tx e x state.Idle there is stands))
      some e there state.Active is =
          ignores s h n (λ x stands. ap is_finishing (other_state s tx e x state.Active there is stands))
      some e there state.Waiting is =
          ignores s h n (λ x stands. ap is_finishing (other_state s tx e x state.Waiting there is stands))
      some e there state.Searching is =
          ignores s h n (λ x stands. ap is_finishing (other_state s tx e x state.Searching there is stands))
      some e there state.Preparing is =
          ignores s h n (λ x stands. ap is_finishing (other_state s tx e x state.Preparing there is stands))
      some e there state.Ended is =
          ignores s h n (λ x stands. ap is_finishing (other_state s tx e x state.Ended there is stands))

  -- Searches.

  -- it goes on waiting, with another search
  searching_goes : (s : NodeState) (tx : TxId) (e : TxEntry) (search : Search) → entry_of s tx ≡ Some e →
      waits_for_lock e.state ≡ true → StarterInAct past s → G s (with_search s tx search)
      × ((entry_of (with_search s tx search) tx) ≡ Some (record e { state = state.Searching; search = Some search }))
  searching_goes s tx e search there waits n =
      let f : TxEntry → TxEntry = λ (x : TxEntry). record x { state = state.Searching; search = Some search } in
      let was = no_more past s n tx e there in (
        (
          subst (λ z. StarterInAct past (on_entry s tx f z)) (sym there)
              (starter_entry s.me (past ++ s.noted) (past ++ s.noted) s.txs s.session_states tx e (f e) there
              (record {
                others = λ u ne. (refl, refl);
                decided = was.decided ∙ undecided e.state waits;
                started = was.started;
                shape = still e.state waits was.shape;
                asked = λ awaiting key on. was.asked (rw waits refl) key on;
                rests = λ d here free before none. absurd (let old = before (faultless e.state waits was.shape) in
                    never e.state waits old.resting);
                idle = λ idle. absurd (cc);
              }) n),
          kit.searched s tx e search n there waits,
        ),
        subst (λ z. entry_of (on_entry s tx f z) tx ≡ Some (f e)) (sym there) (laws.at_put_same tx_cmp tx_total s.txs tx (f e)),
      )
    where
      undecided : (st : TxState) → waits_for_lock st ≡ true → decided_as st ≡ []
      undecided state.Waiting w = refl
      undecided state.Searching w = refl
      undecided state.Idle w = refl
      undecided state.Active w = refl
      undecided state.Preparing w = refl
      undecided state.Committing w = absurd (cc)
      undecided state.RollingBack w = absurd (cc)
      undecided state.Ended w = absurd (cc)

      never : (st : TxState) → waits_for_lock st ≡ true → is_resting st ≡ true → ⊥
      never state.Idle w r = cc
      never state.Active w r = cc
      never state.Waiting w r = cc
      never state.Searching w r = cc
      never state.Preparing w r = cc
      never state.Committing w r = cc
      never state.RollingBack w r = cc
      never state.Ended w r = cc

      faultless : (st : TxState) → waits_for_lock st ≡ true → HasShape st e → e.fault ≡ None
      faultless state.Waiting w shape = shape.1
      faultless state.Searching w shape = shape.1
      faultless state.Idle w shape = absurd (cc)
      faultless state.Active w shape = absurd (cc)
      faultless state.Preparing w shape = absurd (cc)
      faultless state.Committing w shape = absurd (cc)
      faultless state.RollingBack w shape = absurd (cc)
      faultless state.Ended w shape = absurd (cc)

      still : (st : TxState) → waits_for_lock st ≡ true → HasShape st e → (is_some e.top ≡ true) × (e.fault ≡ None)
          × (e.getting ≡ None)
      still state.Waiting w f = (f.0, f.1, f.2)
      still state.Searching w f = (f.0, f.1, f.2)
      still state.Idle w f = absurd (cc)
      still state.Active w f = absurd (cc)
      still state.Preparing w f = absurd (cc)
      still state.Committing w f = absurd (cc)
      still state.RollingBack w f = absurd (cc)
      still state.Ended w f = absurd (cc)

  next_round_goes : (s : NodeState) (tx : TxId) (e : TxEntry) (search : Search) → entry_of s tx ≡ Some e →
      waits_for_lock e.state ≡ true → StarterInAct past s → G s (after_next_round s tx search)
  next_round_goes s tx e search there waits n =
      let here : NodeState = with_search s tx search in
      let first = searching_goes s tx e search there waits n in
      (first.0.0, kit.andthen s here _ first.0.1 (kit.edges_asked here tx search.round search.known search.awaited))

  search_clear_goes : (s : NodeState) (tx : TxId) (e : TxEntry) (search : Search) (named : List TxId) →
      entry_of s tx ≡ Some e → e.state ≡ state.Searching → StarterInAct past s → G s (after_search_clear s tx search named)
  search_clear_goes s tx e search named there is n =
      walk.either_goes past most R kit s _ _ (nat_eq (length named) (length search.known))
      (λ over. let here : NodeState = with_note s (note.Searched tx []) in
      atoms.seq past most R kit s here _ (atoms.noted_goes past most R kit s (note.Searched tx []) refl n)
      (λ j. atoms.fails_goes past most R kit here tx e fault.Timeout there (ap is_open is) j))
      (λ more. next_round_goes s tx e (search_of_next_round s search named) there (ap waits_for_lock is) n)

  searched_goes : (s : NodeState) (tx : TxId) (e : TxEntry) (search : Search) (found : Option (List Edge)) →
      entry_of s tx ≡ Some e → e.state ≡ state.Searching → StarterInAct past s → G s (after_search s tx search found)
  searched_goes s tx e search (Some cycle) there is n =
      let here : NodeState = with_note s (note.Searched tx cycle) in
      atoms.seq past most R kit s here _ (atoms.noted_goes past most R kit s (note.Searched tx cycle) refl n)
      (λ j. atoms.fails_goes past most R kit here tx e fault.Deadlock there (ap is_open is) j)
  searched_goes s tx e search None there is n = search_clear_goes s tx e search (with_named search.known search.edges) there
      is n

  round_over_goes : (s : NodeState) (tx : TxId) (e : TxEntry) (search : Search) (awaited : List NodeId) →
      entry_of s tx ≡ Some e → e.state ≡ state.Searching → StarterInAct past s → G s (after_round s tx search awaited)
  round_over_goes s tx e search [] there is n = searched_goes s tx e search (cycle_through tx search.edges) there is n
  round_over_goes s tx e search (x ∷ more) there is n = (searching_goes s tx e search there (ap waits_for_lock is) n).0

  pub edges_ok_takes : (s : NodeState) (from : NodeId) (tx : TxId) (round act : ℕ) (edges : List Wait) → StarterInAct past s →
      Takes (record { from = from; message = msg.EdgesOk tx round act edges }) s (after_edges_ok s from tx round act edges)
  edges_ok_takes s from tx round act edges n = by (entry_of s tx) refl
    where
      h : MessageInHand
      h = record { from = from; message = msg.EdgesOk tx round act edges }

      by_search : (e : TxEntry) (found : Option Search) → entry_of s tx ≡ Some e → e.search ≡ found →
          Takes h s (after_edges_ok_in s from tx round act edges found)
      by_search e None there is = ignores s h n tt
      by_search e (Some old) there is = by_round (nat_eq old.round round && has node_cmp old.awaited from)
        where
          by_round : (b : Bool) → Takes h s (if b then after_gather s tx (search_with_answer old from act edges) else s)
          by_round true = then_goes h s s _ (ignores s h n tt)
              (λ j. round_over_goes s tx e (search_with_answer old from act edges)
              (search_with_answer old from act edges).awaited there (no_search e.state e (no_more past s n tx e there).shape
              (ap is_some is)) j)
          by_round false = ignores s h n tt

      by : (e : Option TxEntry) → entry_of s tx ≡ e →
          Takes h s (after_edges_ok_in s from tx round act edges (option_and_then (λ (e : TxEntry). e.search) e))
      by None there = ignores s h n tt
      by (Some e) there = by_search e e.search there refl

  -- A deadline: the event is possible only where it counts.

  begins_search_goes : (s : NodeState) (tx : TxId) (e : TxEntry) → entry_of s tx ≡ Some e → waits_for_lock e.state ≡ true →
      StarterInAct past s → G s (after_begin_search s tx)
  begins_search_goes s tx e there waits n =
      let members : List NodeId = node_set [] s.members in
      let here : NodeState = with_search s tx (new_search members tx) in
      let first = searching_goes s tx e (new_search members tx) there waits n in
      (first.0.0, kit.andthen s here _ first.0.1 (kit.edges_asked here tx 1 (tx ∷ []) members))

  pub expire_goes : (s : NodeState) (tx : TxId) → is_overdue s tx ≡ true → StarterInAct past s → G s (after_expire s tx)
  expire_goes s tx due n =
      let here : NodeState = with_note s (note.Expire tx) in
      atoms.seq past most R kit s here _ (atoms.noted_goes past most R kit s (note.Expire tx) refl n)
      (λ j. by (entry_of s tx) refl j due)
    where
      s1 : NodeState
      s1 = with_note s (note.Expire tx)

      counts : (e : TxEntry) → is_reached s.now (live_deadline e) ≡ true → may_time_out e.state ≡ true
      counts e reached = go (may_time_out e.state) refl reached
        where
          go : (b : Bool) → may_time_out e.state ≡ b → is_reached s.now (if b then e.deadline else None) ≡ true → b ≡ true
          go true is r = refl
          go false is r = absurd (cc)

      some : (e : TxEntry) → entry_of s tx ≡ Some e → (st : TxState) → e.state ≡ st → may_time_out st ≡ true →
          StarterInAct past s1 → G s1 (after_expire_in s1 tx st)
      some e there state.Waiting is may j = begins_search_goes s1 tx e there (ap waits_for_lock is) j
      some e there state.Idle is may j = atoms.fails_goes past most R kit s1 tx e fault.Timeout there (ap is_open is) j
      some e there state.Active is may j = atoms.fails_goes past most R kit s1 tx e fault.Timeout there (ap is_open is) j
      some e there state.Preparing is may j = atoms.fails_goes past most R kit s1 tx e fault.Timeout there (ap is_open is) j
      some e there state.Searching is may j = absurd (cc)
      some e there state.Committing is may j = absurd (cc)
      some e there state.RollingBack is may j = absurd (cc)
      some e there state.Ended is may j = absurd (cc)

      by : (e : Option TxEntry) → entry_of s tx ≡ e → StarterInAct past s1 →
          is_reached s.now (option_and_then live_deadline e) ≡ true →
          G s1 (after_expire_in s1 tx (unwrap_or (option_map (λ (e : TxEntry). e.state) e) state.Ended))
      by None there j reached = absurd (cc)
      by (Some e) there j reached = some e there e.state refl (counts e reached) j
