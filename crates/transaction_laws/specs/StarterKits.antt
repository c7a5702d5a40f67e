-- The atoms of the near side: what a starter's rows do to its transactions and sessions, each with what is known when it is
-- done. R is what an atom keeps; H is the same for an atom that uses up the message in hand.
use Rattle.std.specs.Prelude.{Bool, [], false, true, ◌∷◌, ◌≡◌, ◌<◌, ◌≤◌, ◌⊎◌, ◌^◌, ℕ, None, Option, Some}
use Rattle.std.specs.Option.{is_some}
use Rattle.act_rows.specs.Accesses.{after_backup_finished_at_starter, after_keep_near, after_near_hit, after_send_prepares, is_pending_access, shares_of, with_found_read, with_lock_asked, with_outcome, with_touched, with_tx_state, with_value_asked, with_write, without_awaited, without_getting}
use Rattle.act_rows.specs.Commands.{after_open_tx, next_tx}
use Rattle.act_rows.specs.Decisions.{after_decide_of, after_fail, after_left_decided, primaries_at}
use Rattle.act_rows.specs.Searches.{after_ask, with_search}
use Rattle.act_rows.specs.Steps.{is_open as is_version_open}
use Rattle.act_rows.specs.Steps.{entry_of, primary_at, session_state_of, with_entry, with_near, with_note, with_out, with_session_state}
use Rattle.part_model.specs.Copies.{Found}
use Rattle.part_model.specs.NearEntries.{NearCache}
use Rattle.part_model.specs.declared.near.NearEntry.{NearEntry}
use Rattle.ignite_types.specs.Names.{key_cmp, tx_cmp}
use Rattle.ignite_types.specs.declared.answer.Answer.{Answer}
use Rattle.ignite_types.specs.declared.answer.Fault.{Fault}
use Rattle.ignite_types.specs.declared.journal.Rec.{Rec}
use Rattle.ignite_types.specs.declared.list.List.{List}
use Rattle.ignite_types.specs.declared.message.Message.{Message}
use Rattle.ignite_types.specs.declared.names.NodeId.{NodeId}
use Rattle.ignite_types.specs.declared.names.TopVer.{TopVer}
use Rattle.ignite_types.specs.declared.names.TxId.{TxId}
use Rattle.ignite_types.specs.declared.scenario.Command.{Command}
use Rattle.ignite_types.specs.declared.scenario.Mode.{Mode}
use Rattle.ignite_types.specs.declared.text.Key.{Key}
use Rattle.node_state.specs.declared.near.Search.{Search}
use Rattle.node_state.specs.declared.near.TxEntry.{TxEntry}
use Rattle.node_state.specs.declared.near.TxState.{TxState}
use Rattle.node_state.specs.Node.{NodeState}
use Rattle.node_state.specs.declared.session.SessionState.{SessionState}
use Rattle.ordered_set.specs.Members.{has}
use Rattle.ordered_table.specs.Entries.{without}
use Rattle.ignite_types.specs.declared.journal.Rec.TheVariants as note
use Rattle.ignite_types.specs.declared.message.Message.TheVariants as msg
use Rattle.ignite_types.specs.declared.scenario.Mode.TheVariants as mode
use Rattle.node_state.specs.declared.near.TxState.TheVariants as state
use Rattle.transaction_laws.specs.StarterStates.{is_open, waits_for_lock}
use Rattle.transaction_laws.specs.StarterFacts.{IsActing, StarterInAct, is_busy, is_silent}
use Rattle.scenes.specs.Rows.{MessageInHand}

-- when a transaction may be decided so: to commit where it has no key, or where each answer to its Prepare has come
abbrev pub MayDecide : Bool → TxEntry → Type 0
MayDecide false e = Unit {0}
MayDecide true e = ((e.state ≡ state.Active) × (e.keys ≡ [])) ⊎ ((e.state ≡ state.Preparing) × (e.awaited ≡ []))

-- a session's state may change where no command is at work, or its command stays
abbrev pub IsQuietChange : SessionState → SessionState → Type 0
IsQuietChange d d2 = (d2.pending ≡ d.pending) ⊎ (is_busy d ≡ false)

-- it was decided, and its answers are awaited
abbrev pub is_finishing : TxState → Bool
is_finishing state.Committing = true
is_finishing state.RollingBack = true
is_finishing _ = false

-- the session has room for one more transaction
abbrev pub HasRoom : ℕ → SessionState → Type 0
HasRoom most d = (d.started < most) × (most ≤ 2 ^ 62)

-- where a session has this many transactions at most
pub record StarterKit (past : List Rec) (most : ℕ) (R : NodeState → NodeState → Type 0) : Type 0 where
  pub nothing : (s : NodeState) → R s s
  pub andthen : (a b c : NodeState) → R a b → R b c → R a c
  pub noted : (s : NodeState) (r : Rec) → StarterInAct past s → is_silent r ≡ true → R s (with_note s r)
  pub near_cache : (s : NodeState) (key : Key) (near : NearCache) → R s (with_near s key near)
  -- sessions
  pub session_state : (s : NodeState) (session : ℕ) (d d2 : SessionState) → StarterInAct past s →
      session_state_of s session ≡ Some d → d2.tx ≡ d.tx → d2.started ≡ d.started → IsQuietChange d d2 →
      R s (with_session_state s session d2)
  pub opened : (s : NodeState) (session : ℕ) (d : SessionState) (m : Mode) (deadline : Option ℕ) (block : Bool) →
      StarterInAct past s → session_state_of s session ≡ Some d → d.tx ≡ None → HasRoom most d
      → R s (after_open_tx s (next_tx s session d.started) m deadline block)
  pub started : (s : NodeState) (tx : TxId) (e : TxEntry) → StarterInAct past s → entry_of s tx ≡ Some e →
      e.state ≡ state.Idle → is_version_open s s.opened ≡ true →
      R s (with_note (with_entry s tx (record e { top = Some s.seen; state = state.Active })) (note.Start tx s.seen))
  -- accesses
  pub wrote : (s : NodeState) (tx : TxId) (top : TopVer) (a : IsActing s tx top) (key : Key) (new : Option (List ℕ)) →
      StarterInAct past s → has key_cmp a.entry.keys key ≡ true → R s (with_write s tx key new)
  pub outcome : (s : NodeState) (tx : TxId) (top : TopVer) (a : IsActing s tx top) (x : Answer) → StarterInAct past s →
      R s (with_outcome s tx x)
  pub touched : (s : NodeState) (tx : TxId) (top : TopVer) (a : IsActing s tx top) (key : Key) → StarterInAct past s →
      a.entry.mode ≡ mode.Optimistic → R s (with_touched s tx key)
  pub hit : (s : NodeState) (tx : TxId) (top : TopVer) (a : IsActing s tx top) (key : Key) (n : NearEntry) →
      StarterInAct past s → a.entry.mode ≡ mode.Optimistic → R s (after_near_hit s tx key n)
  pub asked_value : (s : NodeState) (tx : TxId) (top : TopVer) (a : IsActing s tx top) (key : Key) (primary : NodeId)
      (near : Bool) → StarterInAct past s → a.entry.mode ≡ mode.Optimistic → primary_at s key ≡ Some primary
      → R s (with_out (with_value_asked s tx key near) primary (msg.Get tx key near))
  pub asked_lock : (s : NodeState) (tx : TxId) (top : TopVer) (a : IsActing s tx top) (key : Key) (primary : NodeId) →
      StarterInAct past s → a.entry.mode ≡ mode.Pessimistic → has key_cmp a.entry.keys key ≡ false →
      primary_at s key ≡ Some primary
      → is_pending_access key (Some a.session_state) ≡ true →
      R s (with_out (with_lock_asked s tx key primary) primary (msg.Lock tx top key))
  -- ends
  pub prepared : (s : NodeState) (tx : TxId) (top : TopVer) (a : IsActing s tx top) (key : Key) (keys : List Key) →
      StarterInAct past s → a.entry.keys ≡ key ∷ keys
      → R s (after_send_prepares s tx top a.entry (primaries_at s (key ∷ keys)) (shares_of s.installed (key ∷ keys)))
  pub decided : (s : NodeState) (tx : TxId) (e : TxEntry) (commit : Bool) → StarterInAct past s → entry_of s tx ≡ Some e →
      is_open e.state ≡ true → MayDecide commit e → R s (after_decide_of s tx commit (Some e))
  pub failed : (s : NodeState) (tx : TxId) (e : TxEntry) (f : Fault) → StarterInAct past s → entry_of s tx ≡ Some e →
      is_open e.state ≡ true → R s (after_fail s tx f)
  -- a holder of a lost primary's share has answered
  pub backed : (s : NodeState) (from : NodeId) (tx : TxId) (primary : NodeId) (e : TxEntry) → StarterInAct past s →
      entry_of s tx ≡ Some e → R s (after_backup_finished_at_starter s from tx primary)
  pub searched : (s : NodeState) (tx : TxId) (e : TxEntry) (search : Search) → StarterInAct past s → entry_of s tx ≡ Some e →
      waits_for_lock e.state ≡ true → R s (with_search s tx search)
  pub edges_asked : (s : NodeState) (tx : TxId) (round : ℕ) (known : List TxId) (nodes : List NodeId) →
      R s (after_ask s tx round known nodes)
  -- a node is seen to leave: it is awaited no more
  pub left : (s : NodeState) (tx : TxId) (e : TxEntry) (node : NodeId) → StarterInAct past s → entry_of s tx ≡ Some e →
      is_finishing e.state ≡ true → R s (after_left_decided s tx node e)
  pub fault_kept : (s : NodeState) (tx : TxId) (e : TxEntry) → StarterInAct past s → entry_of s tx ≡ Some e →
      e.state ≡ state.RollingBack → e.awaited ≡ [] → e.backups ≡ [] → is_some e.fault ≡ true →
      R s (with_entry s tx (record e { state = state.Ended }))
  pub closed : (s : NodeState) (tx : TxId) (e : TxEntry) (d d2 : SessionState) → StarterInAct past s →
      entry_of s tx ≡ Some e → is_open e.state ≡ false → e.awaited ≡ [] → e.backups ≡ [] →
      session_state_of s tx.session ≡ Some d → d2.tx ≡ None → d2.started ≡ d.started
      → R s (with_session_state (record s { txs = without tx_cmp s.txs tx }) tx.session d2)

-- why a message in hand changes nothing at its transaction's starter
abbrev pub IsIgnored : NodeState → Message → Type 0
IsIgnored s (msg.LockOk tx key found) = (e : TxEntry) → entry_of s tx ≡ Some e → e.state ≡ state.Waiting →
    is_pending_access key (session_state_of s tx.session) ≡ true → ⊥
IsIgnored s (msg.GetOk tx key found) = Unit {0}
IsIgnored s (msg.Prepared tx) = (e : TxEntry) → entry_of s tx ≡ Some e → e.state ≡ state.Preparing → ⊥
IsIgnored s (msg.PrepareFail tx why) = Unit {0}
IsIgnored s (msg.Finished tx) = (e : TxEntry) → entry_of s tx ≡ Some e → is_finishing e.state ≡ false
IsIgnored s (msg.EdgesOk tx round act edges) = Unit {0}
IsIgnored s m = ⊥

-- the atoms that use up an answer in hand
pub record AnswerKit (past : List Rec) (R : NodeState → NodeState → Type 0) (H : MessageInHand → NodeState → NodeState →
    Type 0) : Type 0 where
  pub after : (h : MessageInHand) (a b c : NodeState) → H h a b → R b c → H h a c
  pub ignored : (s : NodeState) (h : MessageInHand) → StarterInAct past s → IsIgnored s h.message → H h s s
  pub lock_ok : (s : NodeState) (from : NodeId) (tx : TxId) (key : Key) (found : Found) (e : TxEntry) (d : SessionState)
      (c : Command) → StarterInAct past s → entry_of s tx ≡ Some e → e.state ≡ state.Waiting →
      session_state_of s tx.session ≡ Some d → d.pending ≡ Some c → is_pending_access key (Some d) ≡ true
      → H (record { from = from; message = msg.LockOk tx key found }) s
      (with_found_read (with_tx_state s tx state.Active) tx key found c)
  pub get_ok : (s : NodeState) (from : NodeId) (tx : TxId) (key : Key) (found : Found) (near : Bool) (e : TxEntry)
      (d : SessionState) (c : Command) → StarterInAct past s → entry_of s tx ≡ Some e → e.state ≡ state.Active →
      is_some e.getting ≡ true → session_state_of s tx.session ≡ Some d → d.pending ≡ Some c
      → H (record { from = from; message = msg.GetOk tx key found }) s
      (with_found_read (after_keep_near (without_getting s tx) key near found) tx key found c)
  pub prepared_by : (s : NodeState) (from : NodeId) (tx : TxId) (e : TxEntry) → StarterInAct past s → entry_of s tx ≡ Some e →
      e.state ≡ state.Preparing → H (record { from = from; message = msg.Prepared tx }) s (without_awaited s tx from)
  pub finished_by : (s : NodeState) (from : NodeId) (tx : TxId) (e : TxEntry) → StarterInAct past s → entry_of s tx ≡ Some e →
      is_finishing e.state ≡ true → H (record { from = from; message = msg.Finished tx }) s (without_awaited s tx from)
