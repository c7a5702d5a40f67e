-- What a starter's tables and records tell of its transactions: each is decided by its state, and has the version of its Start;
-- its session refers to it; and later ones of the session stand in no record yet.
use Rattle.std.specs.Prelude.{Bool, [], false, if◌then◌else◌, true, ◌++◌, ◌&&◌, ◌||◌, ◌∷◌, ◌≡◌, ◌<◌, ℕ, None, Option, Some}
use Rattle.std.specs.Option.{is_none, is_some, option_and_then, option_to_list}
use Rattle.std.specs.Ordering.{nat_cmp}
use Rattle.act_rows.specs.Accesses.{access_key, is_pending_access}
use Rattle.act_rows.specs.Starts.{takes_version}
use Rattle.act_rows.specs.Steps.{entry_of, session_state_of}
use Rattle.ignite_types.specs.Names.{key_cmp, same_tx, tx_cmp}
use Rattle.ignite_types.specs.declared.journal.Rec.{Rec}
use Rattle.ignite_types.specs.declared.list.List.{List}
use Rattle.ignite_types.specs.declared.names.NodeId.{NodeId}
use Rattle.ignite_types.specs.declared.names.TopVer.{TopVer}
use Rattle.ignite_types.specs.declared.names.TxId.{TxId}
use Rattle.ignite_types.specs.declared.scenario.Command.{Command}
use Rattle.ignite_types.specs.declared.text.Key.{Key}
use Rattle.ordered_set.specs.Members.{has}
use Rattle.transaction_laws.specs.StarterStates.{waits_for_lock}
use Rattle.node_state.specs.declared.near.TxEntry.{TxEntry}
use Rattle.node_state.specs.declared.near.TxState.{TxState}
use Rattle.node_state.specs.Node.{NodeState}
use Rattle.node_state.specs.declared.session.SessionState.{SessionState}
use Rattle.ordered_table.specs.Entries.{at}
use Rattle.ordered_table.specs.Places.{IsAscending}
use Rattle.ignite_types.specs.declared.journal.Rec.TheVariants as note
use Rattle.node_state.specs.declared.near.TxState.TheVariants as state

-- the decisions of a transaction that a record makes, and the versions that it fixes
abbrev pub decision_in : TxId → Rec → List Bool
decision_in tx (note.Decide u commit) = if same_tx u tx then commit ∷ [] else []
decision_in tx r = []

abbrev pub version_in : TxId → Rec → List TopVer
version_in tx (note.Start u top) = if same_tx u tx then top ∷ [] else []
version_in tx r = []

abbrev pub decisions : TxId → List Rec → List Bool
decisions tx [] = []
decisions tx (r ∷ rs) = decision_in tx r ++ decisions tx rs

abbrev pub versions : TxId → List Rec → List TopVer
versions tx [] = []
versions tx (r ∷ rs) = version_in tx r ++ versions tx rs

-- it decides nothing and fixes no version
abbrev pub is_aside : Rec → Bool
is_aside (note.Decide tx commit) = false
is_aside (note.Start tx top) = false
is_aside r = true

-- nor tells of a loss
abbrev pub is_silent : Rec → Bool
is_silent (note.Lost node) = false
is_silent r = is_aside r

-- what was decided where a transaction has come so far
abbrev pub decided_as : TxState → List Bool
decided_as state.Committing = true ∷ []
decided_as state.RollingBack = false ∷ []
decided_as state.Ended = false ∷ []
decided_as _ = []

-- what an entry has in each state
abbrev pub HasShape : TxState → TxEntry → Type 0
HasShape state.Idle e = (e.top ≡ None) × (e.fault ≡ None) × (e.getting ≡ None) × (e.search ≡ None) × (e.keys ≡ [])
HasShape state.Active e = (is_some e.top ≡ true) × (e.fault ≡ None) × (e.search ≡ None)
HasShape state.Waiting e = (is_some e.top ≡ true) × (e.fault ≡ None) × (e.getting ≡ None) × (e.search ≡ None)
HasShape state.Searching e = (is_some e.top ≡ true) × (e.fault ≡ None) × (e.getting ≡ None)
HasShape state.Preparing e = (is_some e.top ≡ true) × (e.fault ≡ None) × (e.getting ≡ None) × (e.search ≡ None)
HasShape state.Committing e = (e.fault ≡ None) × (e.getting ≡ None) × (e.search ≡ None)
HasShape state.RollingBack e = (e.getting ≡ None) × (e.search ≡ None)
HasShape state.Ended e = (is_some e.fault ≡ true) × (e.getting ≡ None) × (e.search ≡ None) × (e.awaited ≡ []) × (e.backups ≡ [])

abbrev pub is_resting : TxState → Bool
is_resting state.Idle = true
is_resting state.Active = true
is_resting _ = false

-- it awaits nothing
pub record IsResting (e : TxEntry) : Type 0 where
  pub resting : is_resting e.state ≡ true
  pub no_get : e.getting ≡ None

-- a command is at work: it is not answered yet, and is no sleep
abbrev pub is_busy : SessionState → Bool
is_busy d = is_some d.pending && is_none d.ready && is_none d.wake

abbrev pub tx_of : Option SessionState → Option TxId
tx_of session_state = option_and_then (λ (d : SessionState). d.tx) session_state

-- it waits for a lock, or for a value
abbrev pub is_awaiting : TxEntry → Bool
is_awaiting e = waits_for_lock e.state || is_some e.getting

-- the key that a command speaks of was asked for
abbrev pub KnowsKey : TxEntry → Command → Type 0
KnowsKey e c = (key : Key) → access_key c ≡ Some key → has key_cmp e.keys key ≡ true

-- a transaction at its starter
pub record EntryFits (me : NodeId) (recs : List Rec) (home : Option SessionState) (tx : TxId) (e : TxEntry) : Type 0 where
  pub starter : tx.node ≡ me
  pub at_home : tx_of home ≡ Some tx
  pub decided : decisions tx recs ≡ decided_as e.state
  pub started : versions tx recs ≡ option_to_list e.top
  pub shape : HasShape e.state e
  pub asked : is_awaiting e ≡ true → (key : Key) → is_pending_access key home ≡ true → has key_cmp e.keys key ≡ true

abbrev pub EntryFitsAt : NodeId → List Rec → Option SessionState → TxId → Option TxEntry → Type 0
EntryFitsAt me recs home tx None = Unit {0}
EntryFitsAt me recs home tx (Some e) = EntryFits me recs home tx e

-- a session at its node
pub record SessionFits (me : NodeId) (txs : List (TxId × TxEntry)) (session : ℕ) (d : SessionState) : Type 0 where
  pub named : (tx : TxId) → d.tx ≡ Some tx → tx ≡ record { node = me; session = session; number = d.started }
  pub there : (tx : TxId) → d.tx ≡ Some tx → is_some (at tx_cmp txs tx) ≡ true
  -- no answer is ready, and no sleep goes on, where no command is pending
  pub calm : d.pending ≡ None → (d.ready ≡ None) × (d.wake ≡ None)
  -- a session that has no command at work has a transaction that awaits nothing, or one with a fault
  pub rests : is_busy d ≡ false → (tx : TxId) (e : TxEntry) → d.tx ≡ Some tx → at tx_cmp txs tx ≡ Some e → e.fault ≡ None →
      IsResting e
  -- what waits for the start is at work
  pub begins : (c : Command) → d.pending ≡ Some c → takes_version c ≡ true → (tx : TxId) (e : TxEntry) → d.tx ≡ Some tx →
      at tx_cmp txs tx ≡ Some e → e.state ≡ state.Idle → is_busy d ≡ true

abbrev pub SessionFitsAt : NodeId → List (TxId × TxEntry) → ℕ → Option SessionState → Type 0
SessionFitsAt me txs session None = Unit {0}
SessionFitsAt me txs session (Some d) = SessionFits me txs session d

-- no record names it
pub record IsUnnamed (recs : List Rec) (tx : TxId) : Type 0 where
  pub undecided : decisions tx recs ≡ []
  pub unstarted : versions tx recs ≡ []

-- a node's transactions and sessions, by its records so far
pub record StarterFits (me : NodeId) (recs : List Rec) (txs : List (TxId × TxEntry))
    (session_states : List (ℕ × SessionState)) : Type 0 where
  pub up : IsAscending tx_cmp txs
  pub entries : (tx : TxId) → EntryFitsAt me recs (at nat_cmp session_states tx.session) tx (at tx_cmp txs tx)
  pub sessions : (session : ℕ) → SessionFitsAt me txs session (at nat_cmp session_states session)
  -- a name that its session has not reached stands in no record
  pub fresh : (tx : TxId) (d : SessionState) → tx.node ≡ me → at nat_cmp session_states tx.session ≡ Some d →
      d.started < tx.number → IsUnnamed recs tx

abbrev pub StarterInAct : List Rec → NodeState → Type 0
StarterInAct past s = StarterFits s.me (past ++ s.noted) s.txs s.session_states

-- The transaction is active, and its session's command is at work.
pub record IsActing (s : NodeState) (tx : TxId) (top : TopVer) : Type 0 where
  pub entry : TxEntry
  pub there : entry_of s tx ≡ Some entry
  pub active : entry.state ≡ state.Active
  pub version : entry.top ≡ Some top
  pub no_get : entry.getting ≡ None
  pub session_state : SessionState
  pub session_state_there : session_state_of s tx.session ≡ Some session_state
  pub busy : is_busy session_state ≡ true
