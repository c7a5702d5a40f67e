-- Each atom of the near side keeps what the records tell, and what the kit keeps.
use Rattle.std.proofs.Common.{◌≡◌, ◌≢◌, ◌⊎◌, inl, inr, List, [], ◌∷◌, ◌++◌, Bool, true, false, if◌then◌else◌, Option, Some, None, refl, ap, sym, subst, ◌∙◌, ℕ, ◌&&◌}
use Rattle.std.specs.Option.{is_none, is_some, option_to_list}
use Rattle.frame_laws.proofs.Extending.{append_none}
use Rattle.act_rows.specs.Accesses.{after_commit, after_commit_of, after_commit_of_keys, after_send_prepares, is_pending_access, shares_of, with_lock_asked, with_outcome, with_value_asked, with_write}
use Rattle.act_rows.specs.Decisions.{after_decide, after_decide_of, after_fail, decided_entry, decided_state, primaries_at}
use Rattle.act_rows.specs.Steps.{entry_of, on_entry, on_session_state, primary_at, session_state_of, with_answer_ready, with_entry, with_note, with_out}
use Rattle.act_rows.proofs.TableLaws.{tx_put_put}
use Rattle.ignite_types.proofs.NameLaws.{tx_total}
use Rattle.ignite_types.specs.Names.{key_cmp, node_cmp, same_tx, tx_cmp}
use Rattle.ignite_types.specs.declared.answer.Answer.{Answer}
use Rattle.ignite_types.specs.declared.answer.Fault.{Fault}
use Rattle.ignite_types.specs.declared.journal.Rec.{Rec}
use Rattle.ignite_types.specs.declared.names.NodeId.{NodeId}
use Rattle.ignite_types.specs.declared.names.TopVer.{TopVer}
use Rattle.ignite_types.specs.declared.names.TxId.{TxId}
use Rattle.ignite_types.specs.declared.text.Key.{Key}
use Rattle.node_state.specs.declared.near.TxEntry.{TxEntry}
use Rattle.node_state.specs.declared.near.TxState.{TxState}
use Rattle.node_state.specs.Node.{NodeState}
use Rattle.node_state.specs.declared.session.SessionState.{SessionState}
use Rattle.ordered_set.specs.Members.{has, with_member}
use Rattle.ordered_table.proofs.Laws as laws
use Rattle.ordered_table.specs.Entries.{put}
use Rattle.ignite_types.specs.declared.journal.Rec.TheVariants as note
use Rattle.ignite_types.specs.declared.message.Message.TheVariants as msg
use Rattle.ignite_types.specs.declared.scenario.Mode.TheVariants as mode
use Rattle.node_state.specs.declared.near.TxState.TheVariants as state
use Rattle.transaction_laws.specs.StarterStates.{is_open}
use Rattle.transaction_laws.specs.StarterFacts.{IsActing, EntryFitsAt, EntryFits, StarterFits, StarterInAct, IsResting, HasShape, decided_as, decisions, is_silent, is_awaiting, is_busy, is_resting, tx_of, versions}
use Rattle.transaction_laws.specs.StarterKits.{MayDecide, StarterKit}
use Rattle.transaction_laws.proofs.StarterFacts.{starter_session, starter_entry, starter_noting, said_more, silent_aside}
use Rattle.transaction_laws.proofs.KeyNames.{pending_is}
use Rattle.transaction_laws.proofs.KeySets.{has_itself}
use Rattle.transaction_laws.proofs.Tables.{tx_tells}

-- the same records
pub no_more : (past : List Rec) (s : NodeState) → StarterInAct past s → (tx : TxId) (e : TxEntry) → entry_of s tx ≡ Some e →
    EntryFits s.me (past ++ s.noted) (session_state_of s tx.session) tx e
no_more past s i tx e there = subst (EntryFitsAt s.me (past ++ s.noted) (session_state_of s tx.session) tx) there (i.entries tx)

-- an active transaction changes, and stays active
pub active_change : (past : List Rec) (s : NodeState) (tx : TxId) (top : TopVer) (a : IsActing s tx top) (e2 : TxEntry) →
    StarterInAct past s → e2.state ≡ a.entry.state → e2.top ≡ a.entry.top → HasShape state.Active e2
    → e2.getting ≡ None → StarterInAct past (with_entry s tx e2) × IsActing (with_entry s tx e2) tx top
active_change past s tx top a e2 i same_state same_top shape no_get =
    let was = no_more past s i tx a.entry a.there in
    let active : e2.state ≡ state.Active = same_state ∙ a.active in (
      starter_entry s.me (past ++ s.noted) (past ++ s.noted) s.txs s.session_states tx a.entry e2 a.there
          (record {
            others = λ u ne. (refl, refl);
            decided = was.decided ∙ ap decided_as (sym same_state);
            started = was.started ∙ ap option_to_list (sym same_top);
            shape = subst (λ st. HasShape st e2) (sym active) shape;
            asked = λ awaiting. absurd (let none : is_awaiting e2 ≡ false = rw (active, no_get) refl in cc);
            rests = λ d there free before faultless. record { resting = rw active refl; no_get = no_get };
            idle = λ idle. absurd (cc);
          }) i,
      record {
        entry = e2;
        there = laws.at_put_same tx_cmp tx_total s.txs tx e2;
        active = active;
        version = same_top ∙ a.version;
        no_get = no_get;
        session_state = a.session_state;
        session_state_there = a.session_state_there;
        busy = a.busy;
      },
    )

open_undecided : (st : TxState) → is_open st ≡ true → decided_as st ≡ []
open_undecided state.Idle o = refl
open_undecided state.Active o = refl
open_undecided state.Waiting o = refl
open_undecided state.Searching o = refl
open_undecided state.Preparing o = refl
open_undecided state.Committing o = absurd (cc)
open_undecided state.RollingBack o = absurd (cc)
open_undecided state.Ended o = absurd (cc)

pub open_faultless : (st : TxState) (e : TxEntry) → is_open st ≡ true → HasShape st e → e.fault ≡ None
open_faultless state.Idle e o shape = shape.1
open_faultless state.Active e o shape = shape.1
open_faultless state.Waiting e o shape = shape.1
open_faultless state.Searching e o shape = shape.1
open_faultless state.Preparing e o shape = shape.1
open_faultless state.Committing e o shape = absurd (cc)
open_faultless state.RollingBack e o shape = absurd (cc)
open_faultless state.Ended e o shape = absurd (cc)

decided_now : (commit : Bool) → commit ∷ [] ≡ decided_as (decided_state commit)
decided_now true = refl
decided_now false = refl

not_idle : (commit : Bool) → decided_state commit ≡ state.Idle → ⊥
not_idle true e = absurd (cc)
not_idle false e = absurd (cc)

decided_still : (commit : Bool) (e : TxEntry) → e.state ≡ decided_state commit → HasShape (decided_state commit) e →
    is_awaiting e ≡ false
decided_still true e st shape = rw (st, shape.1) refl
decided_still false e st shape = rw (st, shape.0) refl

-- a decision is noted, and the entry tells it
decide_near : (past : List Rec) (s : NodeState) (tx : TxId) (e e2 : TxEntry) (commit : Bool) → StarterInAct past s →
    entry_of s tx ≡ Some e → is_open e.state ≡ true
    → e2.state ≡ decided_state commit → e2.top ≡ e.top → HasShape (decided_state commit) e2
    → ((d : SessionState) → session_state_of s tx.session ≡ Some d → is_busy d ≡ false → (e.fault ≡ None → IsResting e) →
    e2.fault ≡ None → IsResting e2)
    → StarterInAct past (with_note (with_entry s tx e2) (note.Decide tx commit))
decide_near past s tx e e2 commit i there o st top shape rests =
    let was = no_more past s i tx e there in
    starter_entry s.me (past ++ s.noted) (past ++ (s.noted ++ note.Decide tx commit ∷ [])) s.txs s.session_states tx e e2 there
    (record {
      others = λ u ne. other u ne (tx_tells tx u);
      decided = (said_more tx past s.noted (note.Decide tx commit)).0
          ∙ own (tx_tells tx tx) (was.decided ∙ open_undecided e.state o) ∙ decided_now commit ∙ ap decided_as (sym st);
      started = (said_more tx past s.noted (note.Decide tx commit)).1 ∙ append_none (versions tx (past ++ s.noted))
          ∙ was.started ∙ ap option_to_list (sym top);
      shape = subst (λ z. HasShape z e2) (sym st) shape;
      asked = λ awaiting. absurd (let none = decided_still commit e2 st shape in cc);
      rests = rests;
      idle = λ idle. absurd (not_idle commit (sym st ∙ idle));
    }) i
  where
    other : (u : TxId) → (u ≡ tx → ⊥) → ((same_tx tx u ≡ true) × (tx ≡ u)) ⊎ ((same_tx tx u ≡ false) × (tx ≢ u)) →
        (decisions u (past ++ (s.noted ++ note.Decide tx commit ∷ [])) ≡ decisions u (past ++ s.noted))
        × (versions u (past ++ (s.noted ++ note.Decide tx commit ∷ [])) ≡ versions u (past ++ s.noted))
    other u ne (inl is) = absurd (ne (sym is.1))
    other u ne (inr apart) =
        let more = said_more u past s.noted (note.Decide tx commit) in
        (more.0 ∙ rw apart.0 (append_none (decisions u (past ++ s.noted))), more.1 ∙ append_none (versions u (past ++ s.noted)))

    own : ((same_tx tx tx ≡ true) × (tx ≡ tx)) ⊎ ((same_tx tx tx ≡ false) × (tx ≢ tx)) → decisions tx (past ++ s.noted) ≡ [] →
        decisions tx (past ++ s.noted) ++ (if same_tx tx tx then commit ∷ [] else []) ≡ commit ∷ []
    own (inl is) none = rw (is.0, none) refl
    own (inr apart) none = absurd (apart.1 refl)

module _ (past : List Rec) (most : ℕ) (R : NodeState → NodeState → Type 0) (kit : StarterKit past most R) where
  abbrev pub Goes : NodeState → NodeState → Type 0
  Goes s s2 = StarterInAct past s2 × R s s2

  -- and the transaction stays active
  abbrev pub Still : TxId → TopVer → NodeState → NodeState → Type 0
  Still tx top s s2 = StarterInAct past s2 × R s s2 × IsActing s2 tx top

  pub seq : (a b c : NodeState) → Goes a b → (StarterInAct past b → Goes b c) → Goes a c
  seq a b c first second = let rest = second first.0 in (rest.0, kit.andthen a b c first.1 rest.1)

  pub seq_still : (tx : TxId) (top : TopVer) (a b c : NodeState) → Still tx top a b →
      (StarterInAct past b → IsActing b tx top → Goes b c) → Goes a c
  seq_still tx top a b c first second = let rest = second first.0 first.2 in (rest.0, kit.andthen a b c first.1 rest.1)

  pub idle_goes : (s : NodeState) → StarterInAct past s → Goes s s
  idle_goes s i = (i, kit.nothing s)

  pub noted_goes : (s : NodeState) (r : Rec) → is_silent r ≡ true → StarterInAct past s → Goes s (with_note s r)
  noted_goes s r silent i = (starter_noting past s r (silent_aside r silent) i, kit.noted s r i silent)

  -- Active transactions.

  pub active_shape : (s : NodeState) (tx : TxId) (top : TopVer) (a : IsActing s tx top) → StarterInAct past s →
      HasShape state.Active a.entry
  active_shape s tx top a i = subst (λ st. HasShape st a.entry) a.active (no_more past s i tx a.entry a.there).shape

  written_still : (s : NodeState) (tx : TxId) (top : TopVer) (f : TxEntry → TxEntry) →
      ((e : TxEntry) → f e ≡ record e { writes = (f e).writes; outcome = (f e).outcome }) → (a : IsActing s tx top) →
      StarterInAct past s → R s (on_entry s tx f (entry_of s tx)) → Still tx top s (on_entry s tx f (entry_of s tx))
      × ((b : IsActing (on_entry s tx f (entry_of s tx)) tx top) → b.entry.keys ≡ a.entry.keys)
  written_still s tx top f only a i kept =
      let shape = active_shape s tx top a i in
      let is = only a.entry in
      let change = active_change past s tx top a (f a.entry) i (ap (λ (e : TxEntry). e.state) is)
      (ap (λ (e : TxEntry). e.top) is) (
        ap is_some (ap (λ (e : TxEntry). e.top) is) ∙ shape.0,
        ap (λ (e : TxEntry). e.fault) is ∙ shape.1,
        ap (λ (e : TxEntry). e.search) is ∙ shape.2,
      ) (ap (λ (e : TxEntry). e.getting) is ∙ a.no_get) in
      let there : entry_of (on_entry s tx f (entry_of s tx)) tx ≡ Some (f a.entry) =
      subst (λ o. entry_of (on_entry s tx f o) tx ≡ Some (f a.entry)) (sym a.there)
      (laws.at_put_same tx_cmp tx_total s.txs tx (f a.entry)) in
      let now = subst (λ o. StarterInAct past (on_entry s tx f o) × IsActing (on_entry s tx f o) tx top) (sym a.there)
      (change.0, change.1) in (
        (now.0, kept, now.1),
        λ b. let same : f a.entry ≡ b.entry = cc (there, b.there) in
            ap (λ (e : TxEntry). e.keys) (sym same) ∙ ap (λ (e : TxEntry). e.keys) is,
      )

  pub keeps_write_still : (s : NodeState) (tx : TxId) (top : TopVer) (key : Key) (new : Option (List ℕ))
      (a : IsActing s tx top) → has key_cmp a.entry.keys key ≡ true → StarterInAct past s →
      Still tx top s (with_write s tx key new)
  keeps_write_still s tx top key new a known i =
      (written_still s tx top (λ (e : TxEntry). record e { writes = put key_cmp e.writes key new }) (λ e. refl) a i
      (kit.wrote s tx top a key new i known)).0

  pub takes_outcome_still : (s : NodeState) (tx : TxId) (top : TopVer) (x : Answer) → IsActing s tx top →
      StarterInAct past s → Still tx top s (with_outcome s tx x)
  takes_outcome_still s tx top x a i =
      (written_still s tx top (λ (e : TxEntry). record e { outcome = Some x }) (λ e. refl) a i (kit.outcome s tx top a x i)).0

  -- Decisions.

  pub decides_goes : (s : NodeState) (tx : TxId) (e : TxEntry) (commit : Bool) → entry_of s tx ≡ Some e →
      is_open e.state ≡ true → MayDecide commit e
      → (is_resting e.state ≡ false) ⊎ ((d : SessionState) → session_state_of s tx.session ≡ Some d → is_busy d ≡ true) →
      StarterInAct past s → Goes s (after_decide s tx commit)
  decides_goes s tx e commit there o may why i =
      let was = no_more past s i tx e there in
      let faultless = open_faultless e.state e o was.shape in
      subst (λ z. Goes s (after_decide_of s tx commit z)) (sym there) (
        subst (λ z. StarterInAct past (with_note (on_entry s tx (decided_entry s commit) z) (note.Decide tx commit)))
            (sym there)
            (decide_near past s tx e (decided_entry s commit e) commit i there o refl refl (shape commit faultless)
            (λ d here free before none. absurd (busy d here free (before faultless) why))),
        kit.decided s tx e commit i there o may,
      )
    where
      shape : (b : Bool) → e.fault ≡ None → HasShape (decided_state b) (decided_entry s b e)
      shape true none = (none, refl, refl)
      shape false none = (refl, refl)

      busy : (d : SessionState) → session_state_of s tx.session ≡ Some d → is_busy d ≡ false → IsResting e →
          (is_resting e.state ≡ false) ⊎ ((d : SessionState) → session_state_of s tx.session ≡ Some d → is_busy d ≡ true) → ⊥
      busy d here free rests (inl not_resting) = cc (rests.resting, not_resting)
      busy d here free rests (inr at_work) = cc (at_work d here, free)

  pub fails_goes : (s : NodeState) (tx : TxId) (e : TxEntry) (f : Fault) → entry_of s tx ≡ Some e → is_open e.state ≡ true →
      StarterInAct past s → Goes s (after_fail s tx f)
  fails_goes s tx e f there o i =
      let g : TxEntry → TxEntry = λ (x : TxEntry). record x { fault = Some f } in
      let e1 : TxEntry = record e { fault = Some f } in
      let s1 : NodeState = with_note (with_entry s tx e1) (note.Fault tx f) in
      let e2 : TxEntry = decided_entry s1 false e1 in
      let there1 : entry_of s1 tx ≡ Some e1 = laws.at_put_same tx_cmp tx_total s.txs tx e1 in
      let told = decide_near past (with_note s (note.Fault tx f)) tx e e2 false
      (starter_noting past s (note.Fault tx f) refl i) there o refl refl (refl, refl) (λ d here free before none.
      absurd (cc)) in
      let last : StarterInAct past (with_note (with_entry s1 tx e2) (note.Decide tx false)) =
      subst (λ txs. StarterFits s.me (past ++ ((s.noted ++ note.Fault tx f ∷ []) ++ note.Decide tx false ∷ [])) txs
      s.session_states) (sym (tx_put_put s.txs tx e1 e2)) told in (
        subst (λ z. StarterInAct past (after_decide (with_note (on_entry s tx g z) (note.Fault tx f)) tx false)) (sym there)
            (subst (λ z. StarterInAct past (after_decide_of s1 tx false z)) (sym there1)
            (subst (λ z. StarterInAct past (with_note (on_entry s1 tx (decided_entry s1 false) z) (note.Decide tx false)))
            (sym there1) last)),
        kit.failed s tx e f i there o,
      )

  -- The transaction stops to be active.

  -- its session's command is at work
  pub at_work : (s : NodeState) (tx : TxId) (top : TopVer) (a : IsActing s tx top) (d : SessionState) →
      session_state_of s tx.session ≡ Some d → is_busy d ≡ true
  at_work s tx top a d here = let same : a.session_state ≡ d = cc (a.session_state_there, here) in ap is_busy (sym same)
      ∙ a.busy

  pub active_to : (s : NodeState) (tx : TxId) (top : TopVer) (a : IsActing s tx top) (e2 : TxEntry) → StarterInAct past s →
      decided_as e2.state ≡ [] → e2.top ≡ a.entry.top → HasShape e2.state e2 →
      (is_awaiting e2 ≡ true → (key : Key) → is_pending_access key (session_state_of s tx.session) ≡ true →
      has key_cmp e2.keys key ≡ true) → (e2.state ≡ state.Idle → ⊥) → StarterInAct past (with_entry s tx e2)
  active_to s tx top a e2 i undecided same_top shape asked busy =
      let was = no_more past s i tx a.entry a.there in
      starter_entry s.me (past ++ s.noted) (past ++ s.noted) s.txs s.session_states tx a.entry e2 a.there
      (record {
        others = λ u ne. (refl, refl);
        decided = was.decided ∙ ap decided_as a.active ∙ sym undecided;
        started = was.started ∙ ap option_to_list (sym same_top);
        shape = shape;
        asked = asked;
        rests = λ d here free before none. absurd (let work = at_work s tx top a d here in cc (work, free));
        idle = λ idle. absurd (busy idle);
      }) i

  pub asks_lock_goes : (s : NodeState) (tx : TxId) (top : TopVer) (a : IsActing s tx top) (key : Key) (primary : NodeId) →
      a.entry.mode ≡ mode.Pessimistic → has key_cmp a.entry.keys key ≡ false → primary_at s key ≡ Some primary →
      is_pending_access key (Some a.session_state) ≡ true → StarterInAct past s
      → Goes s (with_out (with_lock_asked s tx key primary) primary (msg.Lock tx top key))
  asks_lock_goes s tx top a key primary locks fresh first on i =
      let f : TxEntry → TxEntry = λ (e : TxEntry). record e {
        keys = with_member key_cmp e.keys key;
        asked =
            with_member node_cmp e.asked primary;
        state = state.Waiting;
      } in
      let shape = active_shape s tx top a i in (
        subst (λ z. StarterInAct past (on_entry s tx f z)) (sym a.there)
            (active_to s tx top a (f a.entry) i refl refl (shape.0, shape.1, a.no_get, shape.2)
            (λ awaiting k pending. subst (λ z. has key_cmp (with_member key_cmp a.entry.keys key) z ≡ true)
            (sym (pending_is k key (Some a.session_state)
            (subst (λ z. is_pending_access k z ≡ true) a.session_state_there pending) on)) (has_itself a.entry.keys key))
            (λ idle. absurd (cc))),
        kit.asked_lock s tx top a key primary i locks fresh first on,
      )

  pub asks_value_goes : (s : NodeState) (tx : TxId) (top : TopVer) (a : IsActing s tx top) (key : Key) (primary : NodeId)
      (near : Bool) → a.entry.mode ≡ mode.Optimistic → primary_at s key ≡ Some primary →
      is_pending_access key (Some a.session_state) ≡ true → StarterInAct past s
      → Goes s (with_out (with_value_asked s tx key near) primary (msg.Get tx key near))
  asks_value_goes s tx top a key primary near free first on i =
      let f : TxEntry → TxEntry = λ (e : TxEntry). record e {
        keys = with_member key_cmp e.keys key;
        getting =
            Some (record { key = key; near = near });
      } in
      let shape = active_shape s tx top a i in (
        subst (λ z. StarterInAct past (on_entry s tx f z)) (sym a.there)
            (active_to s tx top a (f a.entry) i (ap decided_as a.active) refl
            (subst (λ st. HasShape st (f a.entry)) (sym a.active) shape)
            (λ awaiting k pending. subst (λ z. has key_cmp (with_member key_cmp a.entry.keys key) z ≡ true)
            (sym (pending_is k key (Some a.session_state)
            (subst (λ z. is_pending_access k z ≡ true) a.session_state_there pending) on)) (has_itself a.entry.keys key))
            (λ idle. absurd (let active = a.active in cc))),
        kit.asked_value s tx top a key primary near i free first,
      )

  pub prepares_goes : (s : NodeState) (tx : TxId) (top : TopVer) (a : IsActing s tx top) (key : Key) (keys : List Key) →
      a.entry.keys ≡ key ∷ keys → StarterInAct past s →
      Goes s (after_send_prepares s tx top a.entry (primaries_at s (key ∷ keys)) (shares_of s.installed (key ∷ keys)))
  prepares_goes s tx top a key keys has_keys i =
      let nodes = primaries_at s (key ∷ keys) in
      let shares = shares_of s.installed (key ∷ keys) in
      let f : TxEntry → TxEntry = λ (e : TxEntry). record e {
        state = state.Preparing;
        asked = nodes;
        awaited = nodes;
        shares = shares;
      } in
      let shape = active_shape s tx top a i in (
        subst (λ z. StarterInAct past (on_entry s tx f z)) (sym a.there)
            (active_to s tx top a (f a.entry) i refl refl (shape.0, shape.1, a.no_get, shape.2)
            (λ awaiting. absurd (let none : is_awaiting (f a.entry) ≡ false = rw a.no_get refl in cc)) (λ idle. absurd (cc))),
        kit.prepared s tx top a key keys i has_keys,
      )

  pub active_is_open : (s : NodeState) (tx : TxId) (top : TopVer) (a : IsActing s tx top) → is_open a.entry.state ≡ true
  active_is_open s tx top a = ap is_open a.active

  pub active_decides : (s : NodeState) (tx : TxId) (top : TopVer) (a : IsActing s tx top) (commit : Bool) →
      MayDecide commit a.entry → StarterInAct past s → Goes s (after_decide s tx commit)
  active_decides s tx top a commit may i = decides_goes s tx a.entry commit a.there (active_is_open s tx top a) may
      (inr (at_work s tx top a)) i

  pub commits_goes : (s : NodeState) (tx : TxId) (top : TopVer) → IsActing s tx top → StarterInAct past s →
      Goes s (after_commit s tx top)
  commits_goes s tx top a i = subst (λ z. Goes s (after_commit_of s tx top z)) (sym a.there) (by_keys a.entry.keys refl)
    where
      by_keys : (keys : List Key) → a.entry.keys ≡ keys → Goes s (after_commit_of_keys s tx top a.entry keys)
      by_keys [] is = active_decides s tx top a true (inl (a.active, is)) i
      by_keys (key ∷ keys) is = prepares_goes s tx top a key keys is i

  -- Answers.

  pub answered_active : (s : NodeState) (tx : TxId) (top : TopVer) (x : Answer) → IsActing s tx top → StarterInAct past s →
      Goes s (with_answer_ready s tx.session x)
  answered_active s tx top x a i =
      let was = no_more past s i tx a.entry a.there in
      let d2 : SessionState = record a.session_state { ready = Some x } in
      subst (λ z. Goes s (on_session_state s tx.session (λ (d : SessionState). record d { ready = Some x }) z))
      (sym a.session_state_there) (
        starter_session s.me (past ++ s.noted) s.txs s.session_states tx.session a.session_state d2 a.session_state_there
            (record {
              same_tx = refl;
              same_count = refl;
              calm = λ none. absurd (pending_there a.session_state a.busy none);
              rests = λ free u y is stands faultless. subst IsResting (only was u y is stands)
                  (record { resting = rw a.active refl; no_get = a.no_get });
              awaits = λ u y is stands awaiting k on. on;
              begins = λ c given starts u y is stands idle. absurd (let same : a.entry ≡ y = only was u y is stands in
                  let active : a.entry.state ≡ state.Active = a.active in cc);
            }) i,
        kit.session_state s tx.session a.session_state d2 i a.session_state_there refl refl (inl refl),
      )
    where
      only : EntryFits s.me (past ++ s.noted) (session_state_of s tx.session) tx a.entry → (u : TxId) (y : TxEntry) →
          a.session_state.tx ≡ Some u → entry_of s u ≡ Some y → a.entry ≡ y
      only was u y is stands =
          let here : a.session_state.tx ≡ Some tx = ap tx_of (sym a.session_state_there) ∙ was.at_home in
          let same : tx ≡ u = cc (here, is) in
          let there : entry_of s u ≡ Some a.entry = subst (λ z. entry_of s z ≡ Some a.entry) same a.there in
          cc (there, stands)

      pending_there : (d : SessionState) → is_busy d ≡ true → d.pending ≡ None → ⊥
      pending_there d busy none =
          absurd (let impossible : false ≡ true = subst (λ z. (is_some z && is_none d.ready && is_none d.wake) ≡ true) none
          busy in cc)
