-- What a node's records tell of its transactions is kept by each change of its tables.
use Rattle.std.proofs.Common.{◌≡◌, ◌≢◌, ◌⊎◌, inl, inr, List, [], ◌∷◌, ◌++◌, true, false, Option, Some, None, refl, ap, sym, subst, ◌∙◌, arith, ℕ, ◌<◌}
use Rattle.std.specs.Option.{is_some, option_to_list}
use Rattle.std.specs.Ordering.{nat_cmp}
use Rattle.std.proofs.lemmas.Cmp.{nat_cmp_total}
use Rattle.std.proofs.lemmas.Map.Lookups.{exact_unsigned}
use Rattle.frame_laws.proofs.Extending.{append_none, append_twice}
use Rattle.act_rows.specs.Accesses.{is_pending_access}
use Rattle.ignite_types.specs.declared.text.Key.{Key}
use Rattle.ignite_types.specs.Names.{key_cmp}
use Rattle.ordered_set.specs.Members.{has}
use Rattle.act_rows.specs.Starts.{takes_version}
use Rattle.act_rows.specs.Steps.{with_note}
use Rattle.ignite_types.proofs.NameLaws.{tx_total}
use Rattle.ignite_types.proofs.NameLaws.{exact_txs}
use Rattle.ignite_types.specs.Names.{tx_cmp, same_tx}
use Rattle.ignite_types.specs.declared.journal.Rec.{Rec}
use Rattle.ignite_types.specs.declared.names.NodeId.{NodeId}
use Rattle.ignite_types.specs.declared.names.TxId.{TxId}
use Rattle.ignite_types.specs.declared.scenario.Command.{Command}
use Rattle.node_state.specs.declared.near.TxEntry.{TxEntry}
use Rattle.node_state.specs.Node.{NodeState}
use Rattle.node_state.specs.declared.session.SessionState.{SessionState}
use Rattle.ordered_table.proofs.Ascending as ascending
use Rattle.ordered_table.proofs.Laws as laws
use Rattle.ordered_table.specs.Entries.{at, put, without}
use Rattle.ignite_types.specs.declared.journal.Rec.TheVariants as note
use Rattle.node_state.specs.declared.near.TxState.TheVariants as state
use Rattle.transaction_laws.specs.StarterFacts.{IsUnnamed, SessionFitsAt, SessionFits, EntryFitsAt, EntryFits, StarterFits, StarterInAct, IsResting, HasShape, decided_as, decision_in, decisions, is_aside, is_awaiting, is_busy, is_silent, tx_of, version_in, versions}
use Rattle.transaction_laws.proofs.Tables.{tx_tells}
use Rattle.transaction_laws.proofs.Tables.{put_elim, without_elim}

-- Records.

pub decisions_append : (tx : TxId) (xs ys : List Rec) → decisions tx (xs ++ ys) ≡ decisions tx xs ++ decisions tx ys
decisions_append tx [] ys = refl
decisions_append tx (x ∷ xs) ys = ap (λ rest. decision_in tx x ++ rest) (decisions_append tx xs ys)
    ∙ sym (append_twice (decision_in tx x) (decisions tx xs) (decisions tx ys))

pub versions_append : (tx : TxId) (xs ys : List Rec) → versions tx (xs ++ ys) ≡ versions tx xs ++ versions tx ys
versions_append tx [] ys = refl
versions_append tx (x ∷ xs) ys = ap (λ rest. version_in tx x ++ rest) (versions_append tx xs ys)
    ∙ sym (append_twice (version_in tx x) (versions tx xs) (versions tx ys))

-- the same is told of a transaction
abbrev pub SameSaid : List Rec → List Rec → TxId → Type 0
SameSaid recs recs2 tx = (decisions tx recs2 ≡ decisions tx recs) × (versions tx recs2 ≡ versions tx recs)

aside_decides : (tx : TxId) (r : Rec) → is_aside r ≡ true → (decision_in tx r ≡ []) × (version_in tx r ≡ [])
aside_decides tx (note.Decide u commit) aside = absurd (cc)
aside_decides tx (note.Start u top) aside = absurd (cc)
aside_decides tx r aside = (refl, refl)

pub silent_aside : (r : Rec) → is_silent r ≡ true → is_aside r ≡ true
silent_aside (note.Lost node) silent = absurd (cc (silent))
silent_aside (note.Start tx top) silent = absurd (cc (silent))
silent_aside (note.Decide tx commit) silent = absurd (cc (silent))
silent_aside r silent = refl

-- one more record
pub said_more : (tx : TxId) (past noted : List Rec) (r : Rec) →
    (decisions tx (past ++ (noted ++ r ∷ [])) ≡ decisions tx (past ++ noted) ++ decision_in tx r)
    × (versions tx (past ++ (noted ++ r ∷ [])) ≡ versions tx (past ++ noted) ++ version_in tx r)
said_more tx past noted r = (
  rw (← append_twice past noted (r ∷ [])) (decisions_append tx (past ++ noted) (r ∷ [])
      ∙ ap (λ xs. decisions tx (past ++ noted) ++ xs) (append_none (decision_in tx r))),
  rw (← append_twice past noted (r ∷ [])) (versions_append tx (past ++ noted) (r ∷ [])
      ∙ ap (λ xs. versions tx (past ++ noted) ++ xs) (append_none (version_in tx r))),
)

pub same_aside : (past noted : List Rec) (r : Rec) → is_aside r ≡ true → (tx : TxId) →
    SameSaid (past ++ noted) (past ++ (noted ++ r ∷ [])) tx
same_aside past noted r aside tx =
    let more = said_more tx past noted r in
    let nothing = aside_decides tx r aside in (
      more.0 ∙ rw nothing.0 (append_none (decisions tx (past ++ noted))),
      more.1 ∙ rw nothing.1 (append_none (versions tx (past ++ noted))),
    )

entry_said : (me : NodeId) (recs recs2 : List Rec) (home : Option SessionState) (tx : TxId) (x : Option TxEntry) →
    SameSaid recs recs2 tx → EntryFitsAt me recs home tx x → EntryFitsAt me recs2 home tx x
entry_said me recs recs2 home tx None same f = tt
entry_said me recs recs2 home tx (Some e) same f = record {
  starter = f.starter;
  at_home = f.at_home;
  decided =
      same.0 ∙ f.decided;
  started = same.1 ∙ f.started;
  shape = f.shape;
  asked = f.asked;
}

-- the same is told of the node's own transactions
pub starter_said : (me : NodeId) (recs recs2 : List Rec) (txs : List (TxId × TxEntry))
    (session_states : List (ℕ × SessionState)) → ((tx : TxId) → tx.node ≡ me → SameSaid recs recs2 tx) →
    StarterFits me recs txs session_states → StarterFits me recs2 txs session_states
starter_said me recs recs2 txs session_states same i = record {
  up = i.up;
  entries = λ tx. said tx (at tx_cmp txs tx) (i.entries tx);
  sessions = i.sessions;
  fresh = λ tx d own here less. let old = i.fresh tx d own here less in record {
    undecided = (same tx own).0 ∙ old.undecided;
    unstarted = (same tx own).1 ∙ old.unstarted;
  };
}
  where
    said : (tx : TxId) (x : Option TxEntry) → EntryFitsAt me recs (at nat_cmp session_states tx.session) tx x →
        EntryFitsAt me recs2 (at nat_cmp session_states tx.session) tx x
    said tx None f = tt
    said tx (Some e) f = entry_said me recs recs2 (at nat_cmp session_states tx.session) tx (Some e) (same tx f.starter) f

pub starter_noting : (past : List Rec) (s : NodeState) (r : Rec) → is_aside r ≡ true → StarterInAct past s →
    StarterInAct past (with_note s r)
starter_noting past s r aside i = starter_said s.me (past ++ s.noted) (past ++ (s.noted ++ r ∷ [])) s.txs s.session_states
    (λ tx own. same_aside past s.noted r aside tx) i

-- The entry of a transaction changes, and maybe it is decided or its version is fixed.

pub record EntryChange (recs recs2 : List Rec) (session_states : List (ℕ × SessionState)) (tx : TxId) (old e : TxEntry) : Type
    0 where
  pub others : (u : TxId) → (u ≡ tx → ⊥) → SameSaid recs recs2 u
  pub decided : decisions tx recs2 ≡ decided_as e.state
  pub started : versions tx recs2 ≡ option_to_list e.top
  pub shape : HasShape e.state e
  pub asked : is_awaiting e ≡ true → (key : Key) → is_pending_access key (at nat_cmp session_states tx.session) ≡ true →
      has key_cmp e.keys key ≡ true
  pub rests : (d : SessionState) → at nat_cmp session_states tx.session ≡ Some d → is_busy d ≡ false →
      (old.fault ≡ None → IsResting old) → e.fault ≡ None → IsResting e
  pub idle : e.state ≡ state.Idle → old.state ≡ state.Idle

there_still : (txs : List (TxId × TxEntry)) (tx : TxId) (e : TxEntry) (u : TxId) → is_some (at tx_cmp txs u) ≡ true →
    is_some (at tx_cmp (put tx_cmp txs tx e) u) ≡ true
there_still txs tx e u =
    put_elim tx_cmp tx_total exact_txs (λ u x. is_some (at tx_cmp txs u) ≡ true → is_some x ≡ true) txs tx e (λ old. refl)
    (λ u ne old. old) u

-- a fact of all entries, but of one
abbrev ForAll : (TxId → TxEntry → Type 0) → TxId → Option TxEntry → Type 0
ForAll P u x = (y : TxEntry) → x ≡ Some y → P u y

for_put : (P : TxId → TxEntry → Type 0) (txs : List (TxId × TxEntry)) (tx : TxId) (e : TxEntry) → P tx e →
    ((u : TxId) → (u ≡ tx → ⊥) → ForAll P u (at tx_cmp txs u)) → (u : TxId) → ForAll P u (at tx_cmp (put tx_cmp txs tx e) u)
for_put P txs tx e here rest = put_elim tx_cmp tx_total exact_txs (ForAll P) txs tx e (λ y is. let same : e ≡ y = cc in
    subst (P tx) same here) rest

session_state_entry : (me : NodeId) (recs recs2 : List Rec) (session_states : List (ℕ × SessionState))
    (txs : List (TxId × TxEntry)) (tx : TxId) (old e : TxEntry) → EntryChange recs recs2 session_states tx old e →
    at tx_cmp txs tx ≡ Some old → (session : ℕ) (x : Option SessionState)
    → at nat_cmp session_states session ≡ x → SessionFitsAt me txs session x → SessionFitsAt me (put tx_cmp txs tx e) session x
session_state_entry me recs recs2 session_states txs tx old e c was session None here f = tt
session_state_entry me recs recs2 session_states txs tx old e c was session (Some d) here f = record {
  named = f.named;
  there = λ u is. there_still txs tx e u (f.there u is);
  calm = f.calm;
  rests = λ idle u y is stands. for_put (λ u y. d.tx ≡ Some u → y.fault ≡ None → IsResting y) txs tx e
      (λ is faultless. c.rests d (subst (λ (n : ℕ). at nat_cmp session_states n ≡ Some d)
      (sym (ap (λ (t : TxId). t.session) (f.named tx is))) here) idle (λ none. f.rests idle tx old is was none) faultless)
      (λ u ne y stands is. f.rests idle u y is stands) u y stands is;
  begins = λ given pending starts u y is stands. for_put (λ u y. d.tx ≡ Some u → y.state ≡ state.Idle →
      is_busy d ≡ true) txs tx e
      (λ is idle. f.begins given pending starts tx old is was (c.idle idle))
      (λ u ne y stands is. f.begins given pending starts u y is stands) u y stands is;
}

pub starter_entry : (me : NodeId) (recs recs2 : List Rec) (txs : List (TxId × TxEntry))
    (session_states : List (ℕ × SessionState)) (tx : TxId) (old e : TxEntry) → at tx_cmp txs tx ≡ Some old →
    EntryChange recs recs2 session_states tx old e
    → StarterFits me recs txs session_states → StarterFits me recs2 (put tx_cmp txs tx e) session_states
starter_entry me recs recs2 txs session_states tx old e there c i =
    let was : EntryFits me recs (at nat_cmp session_states tx.session) tx old =
    subst (EntryFitsAt me recs (at nat_cmp session_states tx.session) tx) there (i.entries tx) in
    record {
      up = ascending.ascending_put tx_cmp tx_total txs tx e i.up;
      entries = put_elim tx_cmp tx_total exact_txs (λ u x. EntryFitsAt me recs2 (at nat_cmp session_states u.session) u x) txs
          tx e
          (record {
            starter = was.starter;
            at_home = was.at_home;
            decided = c.decided;
            started = c.started;
            shape = c.shape;
            asked = c.asked;
          })
          (λ u ne. entry_said me recs recs2 (at nat_cmp session_states u.session) u (at tx_cmp txs u) (c.others u ne)
          (i.entries u));
      sessions = λ session. session_state_entry me recs recs2 session_states txs tx old e c there session
          (at nat_cmp session_states session) refl (i.sessions session);
      fresh = λ u d own here less. blank was u d own here less (tx_tells u tx);
    }
  where
    blank : EntryFits me recs (at nat_cmp session_states tx.session) tx old → (u : TxId) (d : SessionState) → u.node ≡ me →
        at nat_cmp session_states u.session ≡ Some d → d.started < u.number → ((same_tx u tx ≡ true) × (u ≡ tx))
        ⊎ ((same_tx u tx ≡ false) × (u ≢ tx)) → IsUnnamed recs2 u
    blank was u d own here less (inr ne) =
        let before = i.fresh u d own here less in
        record { undecided = (c.others u ne.1).0 ∙ before.undecided; unstarted = (c.others u ne.1).1 ∙ before.unstarted }
    blank was u d own here less (inl is) =
        let home : at nat_cmp session_states tx.session ≡ Some d =
        subst (λ (z : TxId). at nat_cmp session_states z.session ≡ Some d) is.1 here in
        let named : SessionFits me txs tx.session d = subst (SessionFitsAt me txs tx.session) home (i.sessions tx.session) in
        let here : d.tx ≡ Some tx = ap tx_of (sym home) ∙ was.at_home in
        let number : tx.number ≡ d.started = ap (λ (z : TxId). z.number) (named.named tx here) in
        let number_u : u.number ≡ tx.number = ap (λ (z : TxId). z.number) is.1 in
        absurd (omega (arith, less, number, number_u))

-- A session's state changes, but not its transaction.

pub record SessionChange (txs : List (TxId × TxEntry)) (d d2 : SessionState) : Type 0 where
  pub same_tx : d2.tx ≡ d.tx
  pub same_count : d2.started ≡ d.started
  pub calm : d2.pending ≡ None → (d2.ready ≡ None) × (d2.wake ≡ None)
  pub rests : is_busy d2 ≡ false → (tx : TxId) (e : TxEntry) → d.tx ≡ Some tx → at tx_cmp txs tx ≡ Some e → e.fault ≡ None →
      IsResting e
  pub awaits : (tx : TxId) (e : TxEntry) → d.tx ≡ Some tx → at tx_cmp txs tx ≡ Some e → is_awaiting e ≡ true → (key : Key) →
      is_pending_access key (Some d2) ≡ true → is_pending_access key (Some d) ≡ true
  pub begins : (c : Command) → d2.pending ≡ Some c → takes_version c ≡ true → (tx : TxId) (e : TxEntry) → d.tx ≡ Some tx →
      at tx_cmp txs tx ≡ Some e → e.state ≡ state.Idle → is_busy d2 ≡ true

abbrev SessionOr : (ℕ → Option SessionState → Type 0) → ℕ → Option SessionState → Type 0
SessionOr P session x = P session x

home_same : (session_states : List (ℕ × SessionState)) (session : ℕ) (d d2 : SessionState) →
    at nat_cmp session_states session ≡ Some d → d2.tx ≡ d.tx → (n : ℕ) →
    tx_of (at nat_cmp (put nat_cmp session_states session d2) n) ≡ tx_of (at nat_cmp session_states n)
home_same session_states session d d2 there same n =
    put_elim nat_cmp nat_cmp_total exact_unsigned (λ n x. tx_of x ≡ tx_of (at nat_cmp session_states n)) session_states
    session d2 (same ∙ ap tx_of (sym there)) (λ n ne. refl) n

entry_home : (me : NodeId) (recs : List Rec) (home home2 : Option SessionState) (tx : TxId) (x : Option TxEntry) →
    tx_of home2 ≡ tx_of home → ((e : TxEntry) → x ≡ Some e → is_awaiting e ≡ true → (key : Key) →
    is_pending_access key home2 ≡ true → is_pending_access key home ≡ true) → EntryFitsAt me recs home tx x →
    EntryFitsAt me recs home2 tx x
entry_home me recs home home2 tx None same still f = tt
entry_home me recs home home2 tx (Some e) same still f = record {
  starter = f.starter;
  at_home = same ∙ f.at_home;
  decided =
      f.decided;
  started = f.started;
  shape = f.shape;
  asked =
      λ awaiting key on. f.asked awaiting key (still e refl awaiting key on);
}

pub starter_session : (me : NodeId) (recs : List Rec) (txs : List (TxId × TxEntry)) (session_states : List (ℕ × SessionState))
    (session : ℕ) (d d2 : SessionState) → at nat_cmp session_states session ≡ Some d → SessionChange txs d d2
    → StarterFits me recs txs session_states → StarterFits me recs txs (put nat_cmp session_states session d2)
starter_session me recs txs session_states session d d2 there c i =
    let was : SessionFits me txs session d = subst (SessionFitsAt me txs session) there (i.sessions session) in
    record {
      up = i.up;
      entries = λ tx. entry_home me recs (at nat_cmp session_states tx.session)
          (at nat_cmp (put nat_cmp session_states session d2) tx.session) tx (at tx_cmp txs tx)
          (home_same session_states session d d2 there c.same_tx tx.session)
          (λ e stands. put_elim nat_cmp nat_cmp_total exact_unsigned (λ n x. n ≡ tx.session → is_awaiting e ≡ true →
          (key : Key) → is_pending_access key x ≡ true → is_pending_access key (at nat_cmp session_states n) ≡ true)
          session_states session d2
          (λ same awaiting key on. subst (λ z. is_pending_access key z ≡ true) (sym there)
          (c.awaits tx e (ap tx_of (sym there) ∙ subst (λ n. tx_of (at nat_cmp session_states n) ≡ Some tx) (sym same)
          (subst (EntryFitsAt me recs (at nat_cmp session_states tx.session) tx) stands (i.entries tx)).at_home) stands
          awaiting key on))
          (λ n ne same awaiting key on. on) tx.session refl)
          (i.entries tx);
      sessions = put_elim nat_cmp nat_cmp_total exact_unsigned (λ n x. SessionFitsAt me txs n x) session_states session d2
          (record {
            named = λ tx is. rw c.same_count (was.named tx (sym c.same_tx ∙ is));
            there = λ tx is. was.there tx (sym c.same_tx ∙ is);
            calm = c.calm;
            rests = λ idle tx e is. c.rests idle tx e (sym c.same_tx ∙ is);
            begins = λ given pending starts tx e is. c.begins given pending starts tx e (sym c.same_tx ∙ is);
          })
          (λ n ne. i.sessions n);
      fresh = λ tx y mine found fewer. put_elim nat_cmp nat_cmp_total exact_unsigned (λ n x. (e : SessionState) →
          n ≡ tx.session → tx.node ≡ me → x ≡ Some e → e.started < tx.number → IsUnnamed recs tx) session_states session d2
          (λ e same own is less.
          let same_session_state : d2 ≡ e = cc in
          let count : d.started ≡ e.started = sym c.same_count ∙ ap (λ (z : SessionState). z.started) same_session_state in
          i.fresh tx d own (subst (λ n. at nat_cmp session_states n ≡ Some d) same there) (rw count less))
          (λ n ne e same own is less. i.fresh tx e own (subst (λ n. at nat_cmp session_states n ≡ Some e) same is) less)
          tx.session y refl mine found fewer;
    }

-- A transaction is opened by a session that has none.

pub starter_opened : (me : NodeId) (recs : List Rec) (txs : List (TxId × TxEntry)) (session_states : List (ℕ × SessionState))
    (tx : TxId) (e : TxEntry) (d d2 : SessionState) → at nat_cmp session_states tx.session ≡ Some d → d.tx ≡ None →
    tx.node ≡ me → d.started < tx.number
    → e.state ≡ state.Idle → e.top ≡ None → HasShape state.Idle e → d2.tx ≡ Some tx → d2.started ≡ tx.number →
    d2.pending ≡ d.pending → d2.ready ≡ d.ready → d2.wake ≡ d.wake
    → (is_start_pending : (c : Command) → d2.pending ≡ Some c → takes_version c ≡ true → is_busy d2 ≡ true)
    → StarterFits me recs txs session_states →
    StarterFits me recs (put tx_cmp txs tx e) (put nat_cmp session_states tx.session d2)
starter_opened me recs txs session_states tx e d d2 there none own higher idle top shape is_tx count pending ready wake busy i =
    let was : SessionFits me txs tx.session d = subst (SessionFitsAt me txs tx.session) there (i.sessions tx.session) in
    let blank : IsUnnamed recs tx = i.fresh tx d own there higher in
    record {
      up = ascending.ascending_put tx_cmp tx_total txs tx e i.up;
      entries = put_elim tx_cmp tx_total exact_txs
          (λ u x. EntryFitsAt me recs (at nat_cmp (put nat_cmp session_states tx.session d2) u.session) u x) txs tx e
          (record {
            starter = own;
            at_home = ap tx_of (laws.at_put_same nat_cmp nat_cmp_total session_states tx.session d2) ∙ is_tx;
            decided = rw idle blank.undecided;
            started = rw top blank.unstarted;
            shape = rw idle shape;
            asked = λ awaiting. absurd (let none : is_awaiting e ≡ false = rw (idle, shape.2) refl in cc);
          })
          (λ u ne. other_entry u (at tx_cmp txs u) (i.entries u));
      sessions = put_elim nat_cmp nat_cmp_total exact_unsigned (λ n x. SessionFitsAt me (put tx_cmp txs tx e) n x)
          session_states tx.session d2
          (record {
            named = λ u is. let same : tx ≡ u = cc in sym same ∙ name;
            there = λ u is. let same : tx ≡ u = cc in subst (λ (z : TxId). is_some (at tx_cmp (put tx_cmp txs tx e) z) ≡ true)
                same (rw (laws.at_put_same tx_cmp tx_total txs tx e) refl);
            calm = λ idle. let old = was.calm (sym pending ∙ idle) in (ready ∙ old.0, wake ∙ old.1);
            rests = λ not_busy u y is stands faultless. only u y is stands;
            begins = λ given gives starts u y is stands idle. busy given gives starts;
          })
          (λ n ne. other_session_state n (at nat_cmp session_states n) (ne) (i.sessions n));
      fresh = λ u y mine found fewer. put_elim nat_cmp nat_cmp_total exact_unsigned (λ n x. (e : SessionState) →
          n ≡ u.session → u.node ≡ me → x ≡ Some e → e.started < u.number → IsUnnamed recs u) session_states tx.session d2
          (λ z same own is less. let same_session_state : d2 ≡ z = cc in let counts : z.started ≡ tx.number =
          ap (λ (w : SessionState). w.started) (sym same_session_state) ∙ count in
          i.fresh u d own (subst (λ n. at nat_cmp session_states n ≡ Some d) same there)
          (omega (arith, less, counts, higher)))
          (λ n ne z same own is less. i.fresh u z own (subst (λ n. at nat_cmp session_states n ≡ Some z) same is) less)
          u.session y refl mine found fewer;
    }
  where
    name : tx ≡ record { node = me; session = tx.session; number = d2.started }
    name = λ j. record { node = own j; session = tx.session; number = sym count j }

    only : (u : TxId) (y : TxEntry) → d2.tx ≡ Some u → at tx_cmp (put tx_cmp txs tx e) u ≡ Some y → IsResting y
    only u y is stands =
        let same : tx ≡ u = cc in
        let here : at tx_cmp (put tx_cmp txs tx e) u ≡ Some e =
        subst (λ (z : TxId). at tx_cmp (put tx_cmp txs tx e) z ≡ Some e) same (laws.at_put_same tx_cmp tx_total txs tx e) in
        let is_e : e ≡ y = cc in
        subst IsResting is_e (record { resting = rw idle refl; no_get = shape.2 })

    -- no other transaction of this session has an entry
    other_entry : (u : TxId) (x : Option TxEntry) → EntryFitsAt me recs (at nat_cmp session_states u.session) u x →
        EntryFitsAt me recs (at nat_cmp (put nat_cmp session_states tx.session d2) u.session) u x
    other_entry u None f = tt
    other_entry u (Some y) f = record {
      starter = f.starter;
      at_home = put_elim nat_cmp nat_cmp_total exact_unsigned (λ n x. tx_of (at nat_cmp session_states n) ≡ Some u →
          tx_of x ≡ Some u) session_states tx.session d2
          (λ old. absurd (gone (ap tx_of (sym there) ∙ old)))
          (λ n ne old. old) u.session f.at_home;
      decided = f.decided;
      started = f.started;
      shape = f.shape;
      asked = λ awaiting key on.
          f.asked awaiting key (put_elim nat_cmp nat_cmp_total exact_unsigned (λ n x. tx_of (at nat_cmp session_states n)
          ≡ Some u → is_pending_access key x ≡ true → is_pending_access key (at nat_cmp session_states n) ≡ true)
          session_states tx.session d2
          (λ old on. absurd (gone (ap tx_of (sym there) ∙ old)))
          (λ n ne old on. on) u.session f.at_home on);
    }
      where
        gone : d.tx ≡ Some u → ⊥
        gone is = cc (none, is)

    other_session_state : (n : ℕ) (x : Option SessionState) → (n ≡ tx.session → ⊥) → SessionFitsAt me txs n x →
        SessionFitsAt me (put tx_cmp txs tx e) n x
    other_session_state n None ne f = tt
    other_session_state n (Some z) ne f = record {
      named = f.named;
      there = λ u is. there_still txs tx e u (f.there u is);
      calm = f.calm;
      rests = λ free u y is stands. for_put (λ u y. z.tx ≡ Some u → y.fault ≡ None → IsResting y) txs tx e
          (λ is. absurd (ne (sym (ap (λ (t : TxId). t.session) (f.named tx is)))))
          (λ u other y stands is. f.rests free u y is stands) u y stands is;
      begins = λ given pending starts u y is stands. for_put (λ u y. z.tx ≡ Some u → y.state ≡ state.Idle →
          is_busy z ≡ true) txs tx e
          (λ is. absurd (ne (sym (ap (λ (t : TxId). t.session) (f.named tx is)))))
          (λ u other y stands is. f.begins given pending starts u y is stands) u y stands is;
    }

-- A transaction has ended: its session has none.

pub starter_closed : (me : NodeId) (recs : List Rec) (txs : List (TxId × TxEntry)) (session_states : List (ℕ × SessionState))
    (tx : TxId) (e : TxEntry) (d d2 : SessionState) → at tx_cmp txs tx ≡ Some e →
    at nat_cmp session_states tx.session ≡ Some d → d2.tx ≡ None → d2.started ≡ d.started
    → (d2.pending ≡ None → (d2.ready ≡ None) × (d2.wake ≡ None))
    → StarterFits me recs txs session_states →
    StarterFits me recs (without tx_cmp txs tx) (put nat_cmp session_states tx.session d2)
starter_closed me recs txs session_states tx e d d2 there home none count calm i =
    let was : EntryFits me recs (at nat_cmp session_states tx.session) tx e =
    subst (EntryFitsAt me recs (at nat_cmp session_states tx.session) tx) there (i.entries tx) in
    let here : d.tx ≡ Some tx = ap tx_of (sym home) ∙ was.at_home in
    record {
      up = ascending.ascending_without tx_cmp tx_total txs tx i.up;
      entries = without_elim tx_cmp tx_total exact_txs
          (λ u x. EntryFitsAt me recs (at nat_cmp (put nat_cmp session_states tx.session d2) u.session) u x) txs tx i.up tt
          (λ u ne. other_entry here u ne (at tx_cmp txs u) (i.entries u));
      sessions = put_elim nat_cmp nat_cmp_total exact_unsigned (λ n x. SessionFitsAt me (without tx_cmp txs tx) n x)
          session_states tx.session d2
          (record {
            named = λ u is. absurd (cc (none, is));
            there = λ u is. absurd (cc (none, is));
            calm = calm;
            rests = λ free u y is. absurd (cc (none, is));
            begins = λ given pending starts u y is. absurd (cc (none, is));
          })
          (λ n ne. other_session_state n (at nat_cmp session_states n) ne (i.sessions n));
      fresh = λ u y mine found fewer. put_elim nat_cmp nat_cmp_total exact_unsigned (λ n x. (e : SessionState) →
          n ≡ u.session → u.node ≡ me → x ≡ Some e → e.started < u.number → IsUnnamed recs u) session_states tx.session d2
          (λ z same own is less. let same_session_state : d2 ≡ z = cc in let counts : d.started ≡ z.started = sym count
          ∙ ap (λ (w : SessionState). w.started) same_session_state in
          i.fresh u d own (subst (λ n. at nat_cmp session_states n ≡ Some d) same home) (rw counts less))
          (λ n ne z same own is less. i.fresh u z own (subst (λ n. at nat_cmp session_states n ≡ Some z) same is) less)
          u.session y refl mine found fewer;
    }
  where
    other_entry : d.tx ≡ Some tx → (u : TxId) → (u ≡ tx → ⊥) → (x : Option TxEntry) →
        EntryFitsAt me recs (at nat_cmp session_states u.session) u x →
        EntryFitsAt me recs (at nat_cmp (put nat_cmp session_states tx.session d2) u.session) u x
    other_entry here u ne None f = tt
    other_entry here u ne (Some y) f = record {
      starter = f.starter;
      at_home = put_elim nat_cmp nat_cmp_total exact_unsigned (λ n x. tx_of (at nat_cmp session_states n) ≡ Some u →
          tx_of x ≡ Some u) session_states tx.session d2
          (λ old. absurd (ne (same (ap tx_of (sym home) ∙ old))))
          (λ n ne old. old) u.session f.at_home;
      decided = f.decided;
      started = f.started;
      shape = f.shape;
      asked = λ awaiting key on.
          f.asked awaiting key (put_elim nat_cmp nat_cmp_total exact_unsigned (λ n x. tx_of (at nat_cmp session_states n)
          ≡ Some u → is_pending_access key x ≡ true → is_pending_access key (at nat_cmp session_states n) ≡ true)
          session_states tx.session d2
          (λ old on. absurd (ne (same (ap tx_of (sym home) ∙ old))))
          (λ n apart old on. on) u.session f.at_home on);
    }
      where
        same : d.tx ≡ Some u → u ≡ tx
        same is = cc (here, is)

    other_session_state : (n : ℕ) (x : Option SessionState) → (n ≡ tx.session → ⊥) → SessionFitsAt me txs n x →
        SessionFitsAt me (without tx_cmp txs tx) n x
    other_session_state n None ne f = tt
    other_session_state n (Some z) ne f = record {
      named = f.named;
      there = λ u is. without_elim tx_cmp tx_total exact_txs (λ u x. z.tx ≡ Some u → is_some (at tx_cmp txs u) ≡ true →
          is_some x ≡ true) txs tx i.up
          (λ is old. absurd (apart is))
          (λ u other is old. old) u is (f.there u is);
      calm = f.calm;
      rests = λ free u y is stands. f.rests free u y is (stood u y is stands);
      begins = λ given pending starts u y is stands. f.begins given pending starts u y is (stood u y is stands);
    }
      where
        apart : z.tx ≡ Some tx → ⊥
        apart is = ne (sym (ap (λ (t : TxId). t.session) (f.named tx is)))

        stood : (u : TxId) (y : TxEntry) → z.tx ≡ Some u → at tx_cmp (without tx_cmp txs tx) u ≡ Some y →
            at tx_cmp txs u ≡ Some y
        stood u y is = without_elim tx_cmp tx_total exact_txs (λ u x. z.tx ≡ Some u → x ≡ Some y → at tx_cmp txs u ≡ Some y)
            txs tx i.up
            (λ is stands. absurd (cc))
            (λ u other is stands. stands) u is
