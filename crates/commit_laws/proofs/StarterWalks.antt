-- What a starter does for its transactions: each step keeps what the small steps keep.
use Rattle.act_rows.specs.Accesses.{access_key, after_access, after_access_at, after_access_done, after_access_refused, after_add, after_backup_finished_at_starter, after_commit, after_commit_of, after_commit_of_keys, after_finished_at_starter, after_finished_in, after_get_ok, after_get_ok_for, after_get_ok_in, after_get_ok_of, after_keep_near, after_known_access, after_lock_ok, after_lock_ok_in, after_lock_ok_of, after_near_hit, after_near_update, after_new_access, after_new_key, after_optimistic_access, after_optimistic_read, after_prepare_fail, after_prepare_fail_in, after_prepared, after_prepared_in, after_resume, after_resume_with, after_run_access, after_run_command, after_send_prepares, answer_of_value, is_near_kept, is_pending_access, most_keys, prepare_outs, read_of, shares_of, tx_state_of, value_at, with_found_read, with_lock_asked, with_outcome, with_preparing, with_read, with_touched, with_tx_state, with_value_asked, with_write, without_awaited, without_getting}
use Rattle.act_rows.specs.Closing.{after_advance_each_tx, after_advance_starter, after_advance_tx, after_advance_tx_in, after_phase}
use Rattle.act_rows.specs.Commands.{after_access_command, after_answer, after_answer_of, after_begin, after_call, after_call_of, after_command, after_command_in_transaction, after_command_of_entry, after_command_without_fault, after_end_command, after_hand_out, after_open_tx, after_run_if_started, after_skip_end, after_sleep, after_take_command, after_tell_if_ended, answer_to_give, command_to_give, deadline_at, moment_after, new_entry, next_tx, session_state_after_answer, with_pending}
use Rattle.act_rows.specs.Decisions.{after_close_tx, after_decide, after_decide_of, after_end_tx, after_fail, after_fault_ended, after_fault_ended_for, after_left_undecided, after_left_undecided_with, after_tell, closing_answer, decided_entry, decision_outs, entry_after_left, primaries_at, session_state_after_fault, txs_of, waiting_command, with_decision, with_entry_left, with_fault, with_fault_kept, without_tx}
use Rattle.act_rows.specs.Searches.{after_ask, after_begin_search, after_edges_ok, after_edges_ok_for, after_edges_ok_in, after_expire, after_expire_in, after_gather, after_left_at_each_search, after_left_at_searches, after_next_round, after_round, after_search, after_search_clear, is_cut, new_search, search_of, search_of_next_round, search_with_answer, with_named, with_search}
use Rattle.act_rows.specs.Starts.{after_start, after_start_all, after_start_command, after_start_each, after_start_in, after_start_of, after_start_session, after_start_tx, sessions_of, takes_version, with_version}
use Rattle.act_rows.specs.Steps.{entry_of, is_live, is_open, near_of, near_size, on_entry, on_session_state, on_share, outs_to, primary_at, session_state_of, with_answer_ready, with_backup, with_entry, with_near, with_note, with_out, with_out_to_oldest, with_outs, with_session_state, with_share}
use Rattle.commit_laws.proofs.TameMessages.{decision_ends, prepare_tame, to_tame}
use Rattle.commit_laws.specs.CommitSteps.{CommitKit, is_tame}
use Rattle.ignite_types.specs.Names.{key_cmp, node_cmp, same_key, share_cmp}
use Rattle.ignite_types.specs.declared.answer.Answer.{Answer}
use Rattle.ignite_types.specs.declared.answer.Fail.{Fail}
use Rattle.ignite_types.specs.declared.answer.Fault.{Fault}
use Rattle.ignite_types.specs.declared.message.Edge.{Edge}
use Rattle.ignite_types.specs.declared.message.Message.{Message}
use Rattle.ignite_types.specs.declared.message.Out.{Out}
use Rattle.ignite_types.specs.declared.message.Wait.{Wait}
use Rattle.ignite_types.specs.declared.names.CacheVersion.{CacheVersion}
use Rattle.ignite_types.specs.declared.names.NodeId.{NodeId}
use Rattle.ignite_types.specs.declared.names.TopVer.{TopVer}
use Rattle.ignite_types.specs.declared.names.TxId.{TxId}
use Rattle.ignite_types.specs.declared.placement.Share.{Share}
use Rattle.ignite_types.specs.declared.scenario.Command.{Command}
use Rattle.ignite_types.specs.declared.scenario.Mode.{Mode}
use Rattle.ignite_types.specs.declared.text.Key.{Key}
use Rattle.node_state.specs.Node.{NodeState}
use Rattle.node_state.specs.declared.near.Getting.{Getting}
use Rattle.node_state.specs.declared.near.Read.{Read}
use Rattle.node_state.specs.declared.near.Search.{Search}
use Rattle.node_state.specs.declared.near.TxEntry.{TxEntry}
use Rattle.node_state.specs.declared.near.TxState.{TxState}
use Rattle.node_state.specs.declared.primary.BackupShare.{BackupShare}
use Rattle.node_state.specs.declared.primary.OwnShare.{OwnShare}
use Rattle.node_state.specs.declared.session.SessionState.{SessionState}
use Rattle.ordered_set.specs.Members.{has, with_member, without_member}
use Rattle.ordered_table.specs.Entries.{put}
use Rattle.part_model.specs.Copies.{Found}
use Rattle.part_model.specs.Cycles.{cycle_through}
use Rattle.part_model.specs.Directory.{node_set}
use Rattle.part_model.specs.Links.{oldest_in}
use Rattle.part_model.specs.NearEntries.{NearCache, near_entry, near_front, near_put, near_updated}
use Rattle.part_model.specs.NextMap.{has_node}
use Rattle.part_model.specs.Numbers.{sum_with_value}
use Rattle.part_model.specs.declared.near.NearEntry.{NearEntry}
use Rattle.std.proofs.Common.{Bool, Err, List, None, Ok, Option, Result, Some, [], false, if◌then◌else◌, refl, true, ◌∷◌, ◌≡◌}
use Rattle.std.specs.Prelude.{length, nat_eq, nat_le, ℕ, ◌&&◌}
use Rattle.ignite_types.specs.declared.answer.Answer.TheVariants as answer
use Rattle.ignite_types.specs.declared.answer.Fault.TheVariants as fault
use Rattle.ignite_types.specs.declared.journal.Rec.TheVariants as note
use Rattle.ignite_types.specs.declared.message.Message.TheVariants as msg
use Rattle.ignite_types.specs.declared.scenario.Command.TheVariants as command
use Rattle.ignite_types.specs.declared.scenario.Mode.TheVariants as mode
use Rattle.node_state.specs.declared.near.TxState.TheVariants as state

module _ (Known : TxId → Type 0) (R : NodeState → NodeState → Type 0) (kit : CommitKit Known R) where
  pub sent_kept : (s : NodeState) (to : NodeId) (m : Message) → is_tame m ≡ true → R s (with_out s to m)
  sent_kept s to m plain = kit.sent_all s (record { to = to; msg = m } ∷ []) (rw plain refl)

  -- a choice between two
  pub either_kept : (s x y : NodeState) (b : Bool) → R s x → R s y → R s (if b then x else y)
  either_kept s x y true first second = first
  either_kept s x y false first second = second

  pub with_session_state_kept : (s : NodeState) (session : ℕ) (session_state : SessionState) →
      R s (with_session_state s session session_state)
  with_session_state_kept s session session_state = kit.aside s (with_session_state s session session_state) refl

  pub on_session_state_kept : (s : NodeState) (session : ℕ) (f : SessionState → SessionState) (d : Option SessionState) →
      R s (on_session_state s session f d)
  on_session_state_kept s session f None = kit.nothing s
  on_session_state_kept s session f (Some session_state) = with_session_state_kept s session (f session_state)

  pub with_entry_kept : (s : NodeState) (tx : TxId) (entry : TxEntry) → R s (with_entry s tx entry)
  with_entry_kept s tx entry = kit.aside s (with_entry s tx entry) refl

  pub on_entry_kept : (s : NodeState) (tx : TxId) (f : TxEntry → TxEntry) (e : Option TxEntry) → R s (on_entry s tx f e)
  on_entry_kept s tx f None = kit.nothing s
  on_entry_kept s tx f (Some entry) = with_entry_kept s tx (f entry)

  pub with_near_kept : (s : NodeState) (key : Key) (near : NearCache) → R s (with_near s key near)
  with_near_kept s key near = kit.aside s (with_near s key near) refl

  pub answered_kept : (s : NodeState) (session : ℕ) (a : Answer) → R s (with_answer_ready s session a)
  answered_kept s session a = on_session_state_kept s session (λ (d : SessionState). record d { ready = Some a })
      (session_state_of s session)

  pub with_share_kept : (s : NodeState) (tx : TxId) (share : OwnShare) → R s (with_share s tx share)
  with_share_kept s tx share = kit.aside s (with_share s tx share) refl

  pub on_share_kept : (s : NodeState) (tx : TxId) (f : OwnShare → OwnShare) (share : Option OwnShare) →
      R s (on_share s tx f share)
  on_share_kept s tx f None = kit.nothing s
  on_share_kept s tx f (Some share) = with_share_kept s tx (f share)

  pub with_backup_kept : (s : NodeState) (tx : TxId) (primary : NodeId) (share : BackupShare) →
      R s (with_backup s tx primary share)
  with_backup_kept s tx primary share = kit.aside s (with_backup s tx primary share) refl

  pub sent_to_oldest_kept : (s : NodeState) (m : Message) (to : Option NodeId) → is_tame m ≡ true →
      R s (with_out_to_oldest s m to)
  sent_to_oldest_kept s m None plain = kit.nothing s
  sent_to_oldest_kept s m (Some oldest_in) plain = sent_kept s oldest_in m plain

  pub takes_decision_kept : (s : NodeState) (tx : TxId) (commit : Bool) → R s (with_decision s tx commit)
  takes_decision_kept s tx commit = on_entry_kept s tx (decided_entry s commit) (entry_of s tx)

  pub decides_for_kept : (s : NodeState) (tx : TxId) (commit : Bool) (e : Option TxEntry) → R s (after_decide_of s tx commit e)
  decides_for_kept s tx commit None = kit.nothing s
  decides_for_kept s tx commit (Some e) = by (entry_of s tx)
    where
      outs : List Out
      outs = decision_outs s tx commit e

      by : (o : Option TxEntry) →
          R s (with_outs (with_note (on_entry s tx (decided_entry s commit) o) (note.Decide tx commit)) outs)
      by None = kit.decided s (with_outs (with_note s (note.Decide tx commit)) outs) tx commit outs refl refl
          (decision_ends s tx commit e)
      by (Some x) = kit.decided s (with_outs (with_note (with_entry s tx (decided_entry s commit x)) (note.Decide tx commit))
          outs) tx commit outs refl refl (decision_ends s tx commit e)

  pub decides_kept : (s : NodeState) (tx : TxId) (commit : Bool) → R s (after_decide s tx commit)
  decides_kept s tx commit = decides_for_kept s tx commit (entry_of s tx)

  pub takes_fault_kept : (s : NodeState) (tx : TxId) (f : Fault) → R s (with_fault s tx f)
  takes_fault_kept s tx f = on_entry_kept s tx (λ (e : TxEntry). record e { fault = Some f }) (entry_of s tx)

  pub fails_kept : (s : NodeState) (tx : TxId) (f : Fault) → R s (after_fail s tx f)
  fails_kept s tx f =
      kit.andthen s _ _ (takes_fault_kept s tx f)
      (kit.andthen _ _ _ (kit.noting (with_fault s tx f) (note.Fault tx f) refl)
      (decides_kept (with_note (with_fault s tx f) (note.Fault tx f)) tx false))

  pub without_tx_kept : (s : NodeState) (tx : TxId) → R s (without_tx s tx)
  without_tx_kept s tx = kit.aside s (without_tx s tx) refl

  pub tells_kept : (s : NodeState) (tx : TxId) (f : Fault) (c : Command) → R s (after_tell s tx f c)
  tells_kept s tx f c =
      let gone = without_tx s tx in
      kit.andthen s gone _ (without_tx_kept s tx) (on_session_state_kept gone tx.session (session_state_after_fault f c)
      (session_state_of gone tx.session))

  pub keeps_fault_kept : (s : NodeState) (tx : TxId) → R s (with_fault_kept s tx)
  keeps_fault_kept s tx = on_entry_kept s tx (λ (e : TxEntry). record e { state = state.Ended }) (entry_of s tx)

  pub fault_ended_for_kept : (s : NodeState) (tx : TxId) (f : Fault) (c : Option Command) → R s (after_fault_ended_for s tx f c)
  fault_ended_for_kept s tx f None = keeps_fault_kept s tx
  fault_ended_for_kept s tx f (Some c) = tells_kept s tx f c

  pub fault_ended_kept : (s : NodeState) (tx : TxId) (f : Fault) (d : Option SessionState) → R s (after_fault_ended s tx f d)
  fault_ended_kept s tx f None = keeps_fault_kept s tx
  fault_ended_kept s tx f (Some d) = fault_ended_for_kept s tx f (waiting_command d)

  pub closes_kept : (s : NodeState) (tx : TxId) (a : Answer) → R s (after_close_tx s tx a)
  closes_kept s tx a =
      let gone = without_tx s tx in
      kit.andthen s gone _ (without_tx_kept s tx)
      (on_session_state_kept gone tx.session (λ (d : SessionState). record d { tx = None; block = false; ready = Some a })
      (session_state_of gone tx.session))

  pub ends_kept : (s : NodeState) (tx : TxId) (st : TxState) (outcome : Option Answer) (f : Option Fault) →
      R s (after_end_tx s tx st outcome f)
  ends_kept s tx st outcome None = closes_kept s tx (closing_answer st outcome)
  ends_kept s tx st outcome (Some f) = fault_ended_kept s tx f (session_state_of s tx.session)

  pub undecided_with_kept : (s : NodeState) (tx : TxId) (lost : NodeId) (primaries : List NodeId) →
      R s (after_left_undecided_with s tx lost primaries)
  undecided_with_kept s tx lost primaries =
      either_kept s _ _ (has_node primaries lost) (fails_kept s tx (fault.NodeLost lost)) (kit.nothing s)

  pub undecided_left_kept : (s : NodeState) (tx : TxId) (lost : NodeId) (e : TxEntry) → R s (after_left_undecided s tx lost e)
  undecided_left_kept s tx lost e = undecided_with_kept s tx lost (primaries_at s e.keys)

  pub leaves_entry_kept : (s : NodeState) (tx : TxId) (lost : NodeId) → R s (with_entry_left s tx lost)
  leaves_entry_kept s tx lost = on_entry_kept s tx (entry_after_left s lost) (entry_of s tx)

  pub keeps_read_kept : (s : NodeState) (tx : TxId) (key : Key) (read : Read) → R s (with_read s tx key read)
  keeps_read_kept s tx key read = on_entry_kept s tx (λ (e : TxEntry). record e { reads = put key_cmp e.reads key read })
      (entry_of s tx)

  pub keeps_write_kept : (s : NodeState) (tx : TxId) (key : Key) (new : Option (List ℕ)) → R s (with_write s tx key new)
  keeps_write_kept s tx key new = on_entry_kept s tx (λ (e : TxEntry). record e { writes = put key_cmp e.writes key new })
      (entry_of s tx)

  pub takes_state_kept : (s : NodeState) (tx : TxId) (st : TxState) → R s (with_tx_state s tx st)
  takes_state_kept s tx st = on_entry_kept s tx (λ (e : TxEntry). record e { state = st }) (entry_of s tx)

  pub takes_outcome_kept : (s : NodeState) (tx : TxId) (a : Answer) → R s (with_outcome s tx a)
  takes_outcome_kept s tx a = on_entry_kept s tx (λ (e : TxEntry). record e { outcome = Some a }) (entry_of s tx)

  pub touches_kept : (s : NodeState) (tx : TxId) (key : Key) → R s (with_touched s tx key)
  touches_kept s tx key = on_entry_kept s tx (λ (e : TxEntry). record e { keys = with_member key_cmp e.keys key })
      (entry_of s tx)

  pub asks_lock_kept : (s : NodeState) (tx : TxId) (key : Key) (primary : NodeId) → R s (with_lock_asked s tx key primary)
  asks_lock_kept s tx key primary = on_entry_kept s tx (λ (e : TxEntry). record e {
    keys = with_member key_cmp e.keys key;
    asked = with_member node_cmp e.asked primary;
    state = state.Waiting;
  }) (entry_of s tx)

  pub asks_value_kept : (s : NodeState) (tx : TxId) (key : Key) (near : Bool) → R s (with_value_asked s tx key near)
  asks_value_kept s tx key near = on_entry_kept s tx (λ (e : TxEntry). record e {
    keys = with_member key_cmp e.keys key;
    getting = Some (record { key = key; near = near });
  }) (entry_of s tx)

  pub got_value_kept : (s : NodeState) (tx : TxId) → R s (without_getting s tx)
  got_value_kept s tx = on_entry_kept s tx (λ (e : TxEntry). record e { getting = None }) (entry_of s tx)

  -- The commit's first phase.

  pub begins_prepare_kept : (s : NodeState) (tx : TxId) (nodes : List NodeId) (shares : List Share) →
      R s (with_preparing s tx nodes shares)
  begins_prepare_kept s tx nodes shares = on_entry_kept s tx (λ (e : TxEntry). record e {
    state = state.Preparing;
    asked = nodes;
    awaited = nodes;
    shares = shares;
  }) (entry_of s tx)

  pub prepares_kept : (s : NodeState) (tx : TxId) (top : TopVer) (entry : TxEntry) (nodes : List NodeId)
      (shares : List Share) → R s (after_send_prepares s tx top entry nodes shares)
  prepares_kept s tx top entry nodes shares =
      kit.andthen s _ _ (begins_prepare_kept s tx nodes shares)
      (kit.sent_all (with_preparing s tx nodes shares) (prepare_outs s tx top entry shares nodes)
      (prepare_tame s tx top entry shares nodes))

  pub commits_with_kept : (s : NodeState) (tx : TxId) (top : TopVer) (entry : TxEntry) (keys : List Key) →
      R s (after_commit_of_keys s tx top entry keys)
  commits_with_kept s tx top entry [] = decides_kept s tx true
  commits_with_kept s tx top entry (key ∷ keys) =
      prepares_kept s tx top entry (primaries_at s (key ∷ keys)) (shares_of s.installed (key ∷ keys))

  pub commits_for_kept : (s : NodeState) (tx : TxId) (top : TopVer) (e : Option TxEntry) → R s (after_commit_of s tx top e)
  commits_for_kept s tx top None = kit.nothing s
  commits_for_kept s tx top (Some entry) = commits_with_kept s tx top entry entry.keys

  pub commits_kept : (s : NodeState) (tx : TxId) (top : TopVer) → R s (after_commit s tx top)
  commits_kept s tx top = commits_for_kept s tx top (entry_of s tx)

  -- Accesses.

  pub access_done_kept : (s : NodeState) (tx : TxId) (top : TopVer) (block : Bool) (a : Answer) →
      R s (after_access_done s tx top block a)
  access_done_kept s tx top true a = answered_kept s tx.session a
  access_done_kept s tx top false a = kit.andthen s _ _ (takes_outcome_kept s tx a) (commits_kept (with_outcome s tx a) tx top)

  pub access_refused_kept : (s : NodeState) (tx : TxId) (block : Bool) (a : Answer) → R s (after_access_refused s tx block a)
  access_refused_kept s tx true a = answered_kept s tx.session a
  access_refused_kept s tx false a = kit.andthen s _ _ (takes_outcome_kept s tx a) (decides_kept (with_outcome s tx a) tx false)

  pub adds_kept : (s : NodeState) (tx : TxId) (top : TopVer) (block : Bool) (key : Key) (r : Result (List ℕ) Answer) →
      R s (after_add s tx top block key r)
  adds_kept s tx top block key (Ok value) =
      kit.andthen s _ _ (keeps_write_kept s tx key (Some value))
      (access_done_kept (with_write s tx key (Some value)) tx top block (answer.Found value))
  adds_kept s tx top block key (Err a) = access_refused_kept s tx block a

  pub does_known_kept : (s : NodeState) (tx : TxId) (top : TopVer) (block : Bool) (c : Command) →
      R s (after_known_access s tx top block c)
  does_known_kept s tx top block (command.Get key) =
      access_done_kept s tx top block (answer_of_value (value_at (entry_of s tx) key))
  does_known_kept s tx top block (command.Put key value) =
      kit.andthen s _ _ (keeps_write_kept s tx key (Some value))
      (access_done_kept (with_write s tx key (Some value)) tx top block answer.Done)
  does_known_kept s tx top block (command.Remove key) =
      kit.andthen s _ _ (keeps_write_kept s tx key None) (access_done_kept (with_write s tx key None) tx top block answer.Done)
  does_known_kept s tx top block (command.Add key amount) =
      adds_kept s tx top block key (sum_with_value (value_at (entry_of s tx) key) amount)
  does_known_kept s tx top block _ = kit.nothing s

  pub near_hit_kept : (s : NodeState) (tx : TxId) (key : Key) (e : NearEntry) → R s (after_near_hit s tx key e)
  near_hit_kept s tx key e =
      kit.andthen s _ _ (with_near_kept s key (near_front (near_of s key) e))
      (keeps_read_kept (with_near s key (near_front (near_of s key) e)) tx key (record { found = Some e.value; ver = e.ver }))

  pub optimistic_read_kept : (s : NodeState) (tx : TxId) (top : TopVer) (block : Bool) (c : Command) (key : Key)
      (primary : NodeId) (e : Option NearEntry) → R s (after_optimistic_read s tx top block c key primary e)
  optimistic_read_kept s tx top block c key primary (Some e) =
      kit.andthen s _ _ (touches_kept s tx key)
      (kit.andthen _ _ _ (near_hit_kept (with_touched s tx key) tx key e)
      (does_known_kept (after_near_hit (with_touched s tx key) tx key e) tx top block c))
  optimistic_read_kept s tx top block c key primary None =
      let near = is_near_kept s key in
      kit.andthen s _ _ (asks_value_kept s tx key near) (sent_kept (with_value_asked s tx key near) primary
      (msg.Get tx key near) refl)

  pub optimistic_access_kept : (s : NodeState) (tx : TxId) (top : TopVer) (block : Bool) (c : Command) (key : Key)
      (primary : NodeId) → R s (after_optimistic_access s tx top block c key primary)
  optimistic_access_kept s tx top block (command.Get k) key primary =
      optimistic_read_kept s tx top block (command.Get k) key primary (near_entry (near_of s key) key)
  optimistic_access_kept s tx top block (command.Add k amount) key primary =
      optimistic_read_kept s tx top block (command.Add k amount) key primary (near_entry (near_of s key) key)
  optimistic_access_kept s tx top block c key primary =
      kit.andthen s _ _ (touches_kept s tx key) (does_known_kept (with_touched s tx key) tx top block c)

  pub new_access_kept : (s : NodeState) (tx : TxId) (top : TopVer) (block : Bool) (c : Command) (key : Key) (primary : NodeId)
      (m : Mode) → R s (after_new_access s tx top block c key primary m)
  new_access_kept s tx top block c key primary mode.Pessimistic =
      kit.andthen s _ _ (asks_lock_kept s tx key primary) (sent_kept (with_lock_asked s tx key primary) primary
      (msg.Lock tx top key) refl)
  new_access_kept s tx top block c key primary mode.Optimistic = optimistic_access_kept s tx top block c key primary

  pub new_key_kept : (s : NodeState) (tx : TxId) (top : TopVer) (block : Bool) (c : Command) (key : Key) (primary : NodeId)
      (e : TxEntry) → R s (after_new_key s tx top block c key primary e)
  new_key_kept s tx top block c key primary e =
      either_kept s _ _ (nat_le most_keys (length e.keys))
      (access_refused_kept s tx block answer.TooManyKeys)
      (either_kept s _ _ (is_live s primary)
      (new_access_kept s tx top block c key primary e.mode)
      (fails_kept s tx (fault.NodeLost primary)))

  pub accesses_at_kept : (s : NodeState) (tx : TxId) (top : TopVer) (block : Bool) (c : Command) (key : Key)
      (primary : Option NodeId) (e : TxEntry) → R s (after_access_at s tx top block c key primary e)
  accesses_at_kept s tx top block c key None e = access_refused_kept s tx block (answer.NoCache key.cache)
  accesses_at_kept s tx top block c key (Some primary) e =
      either_kept s _ _ (has key_cmp e.keys key)
      (does_known_kept s tx top block c)
      (new_key_kept s tx top block c key primary e)

  pub accesses_kept : (s : NodeState) (tx : TxId) (top : TopVer) (block : Bool) (c : Command) (key : Key)
      (e : Option TxEntry) → R s (after_access s tx top block c key e)
  accesses_kept s tx top block c key None = kit.nothing s
  accesses_kept s tx top block c key (Some e) = accesses_at_kept s tx top block c key (primary_at s key) e

  pub does_access_kept : (s : NodeState) (tx : TxId) (top : TopVer) (block : Bool) (c : Command) (key : Option Key) →
      R s (after_run_access s tx top block c key)
  does_access_kept s tx top block command.Commit None = commits_kept s tx top
  does_access_kept s tx top block c None = kit.nothing s
  does_access_kept s tx top block c (Some key) = accesses_kept s tx top block c key (entry_of s tx)

  pub does_kept : (s : NodeState) (tx : TxId) (top : TopVer) (block : Bool) (c : Command) →
      R s (after_run_command s tx top block c)
  does_kept s tx top block c = does_access_kept s tx top block c (access_key c)

  -- Answers of the primaries.

  pub keeps_found_kept : (s : NodeState) (tx : TxId) (key : Key) (found : Found) (c : Command) →
      R s (with_found_read s tx key found c)
  keeps_found_kept s tx key found (command.Get k) = keeps_read_kept s tx key (read_of found)
  keeps_found_kept s tx key found (command.Add k amount) = keeps_read_kept s tx key (read_of found)
  keeps_found_kept s tx key found _ = kit.nothing s

  pub goes_on_with_kept : (s : NodeState) (tx : TxId) (top : TopVer) (block : Bool) (key : Key) (found : Found)
      (c : Option Command) → R s (after_resume_with s tx top block key found c)
  goes_on_with_kept s tx top block key found None = kit.nothing s
  goes_on_with_kept s tx top block key found (Some c) =
      kit.andthen s _ _ (keeps_found_kept s tx key found c) (does_known_kept (with_found_read s tx key found c) tx top block c)

  pub goes_on_at_kept : (s : NodeState) (tx : TxId) (key : Key) (found : Found) (top : Option TopVer)
      (d : Option SessionState) → R s (after_resume s tx key found top d)
  goes_on_at_kept s tx key found (Some top) (Some d) = goes_on_with_kept s tx top d.block key found d.pending
  goes_on_at_kept s tx key found _ _ = kit.nothing s

  pub lock_ok_in_kept : (s : NodeState) (tx : TxId) (key : Key) (found : Found) (e : TxEntry) (st : TxState) →
      R s (after_lock_ok_in s tx key found e st)
  lock_ok_in_kept s tx key found e state.Waiting =
      either_kept s _ _ (is_pending_access key (session_state_of s tx.session))
      (kit.andthen s _ _ (takes_state_kept s tx state.Active)
      (goes_on_at_kept (with_tx_state s tx state.Active) tx key found e.top (session_state_of s tx.session)))
      (kit.nothing s)
  lock_ok_in_kept s tx key found e _ = kit.nothing s

  pub lock_ok_by_kept : (s : NodeState) (tx : TxId) (key : Key) (found : Found) (e : Option TxEntry) →
      R s (after_lock_ok_of s tx key found e)
  lock_ok_by_kept s tx key found None = kit.nothing s
  lock_ok_by_kept s tx key found (Some e) = lock_ok_in_kept s tx key found e e.state

  pub lock_ok_row_kept : (s : NodeState) (tx : TxId) (key : Key) (found : Found) → R s (after_lock_ok s tx key found)
  lock_ok_row_kept s tx key found = lock_ok_by_kept s tx key found (entry_of s tx)

  pub near_kept_kept : (s : NodeState) (key : Key) (near : Bool) (found : Found) → R s (after_keep_near s key near found)
  near_kept_kept s key true (Some (value, ver)) =
      with_near_kept s key (near_put (near_size s key) (near_of s key) (record { key = key; value = value; ver = ver }))
  near_kept_kept s key _ _ = kit.nothing s

  pub get_ok_for_kept : (s : NodeState) (tx : TxId) (key : Key) (found : Found) (e : TxEntry) (getting : Getting) →
      R s (after_get_ok_for s tx key found e getting)
  get_ok_for_kept s tx key found e getting =
      either_kept s _ _ (same_key getting.key key)
      (kit.andthen s _ _ (got_value_kept s tx)
      (kit.andthen _ _ _ (near_kept_kept (without_getting s tx) key getting.near found)
      (goes_on_at_kept (after_keep_near (without_getting s tx) key getting.near found) tx key found e.top
      (session_state_of s tx.session))))
      (kit.nothing s)

  pub get_ok_in_kept : (s : NodeState) (tx : TxId) (key : Key) (found : Found) (e : TxEntry) (getting : Option Getting) →
      R s (after_get_ok_in s tx key found e getting)
  get_ok_in_kept s tx key found e None = kit.nothing s
  get_ok_in_kept s tx key found e (Some getting) = get_ok_for_kept s tx key found e getting

  pub get_ok_by_kept : (s : NodeState) (tx : TxId) (key : Key) (found : Found) (e : Option TxEntry) →
      R s (after_get_ok_of s tx key found e)
  get_ok_by_kept s tx key found None = kit.nothing s
  get_ok_by_kept s tx key found (Some e) = get_ok_in_kept s tx key found e e.getting

  pub get_ok_row_kept : (s : NodeState) (tx : TxId) (key : Key) (found : Found) → R s (after_get_ok s tx key found)
  get_ok_row_kept s tx key found = get_ok_by_kept s tx key found (entry_of s tx)

  -- Prepared, PrepareFail, Finished, BackupFinished.

  pub no_longer_kept : (s : NodeState) (tx : TxId) (from : NodeId) → R s (without_awaited s tx from)
  no_longer_kept s tx from =
      on_entry_kept s tx (λ (e : TxEntry). record e { awaited = without_member node_cmp e.awaited from }) (entry_of s tx)

  pub prepared_in_kept : (s : NodeState) (from : NodeId) (tx : TxId) (st : TxState) → R s (after_prepared_in s from tx st)
  prepared_in_kept s from tx state.Preparing = no_longer_kept s tx from
  prepared_in_kept s from tx _ = kit.nothing s

  pub prepared_row_kept : (s : NodeState) (from : NodeId) (tx : TxId) → R s (after_prepared s from tx)
  prepared_row_kept s from tx = prepared_in_kept s from tx (tx_state_of s tx)

  pub prepare_fail_in_kept : (s : NodeState) (tx : TxId) (why : Fail) (st : TxState) → R s (after_prepare_fail_in s tx why st)
  prepare_fail_in_kept s tx why state.Preparing = fails_kept s tx (fault.Check why)
  prepare_fail_in_kept s tx why _ = kit.nothing s

  pub prepare_fail_row_kept : (s : NodeState) (tx : TxId) (why : Fail) → R s (after_prepare_fail s tx why)
  prepare_fail_row_kept s tx why = prepare_fail_in_kept s tx why (tx_state_of s tx)

  pub finished_in_kept : (s : NodeState) (from : NodeId) (tx : TxId) (st : TxState) → R s (after_finished_in s from tx st)
  finished_in_kept s from tx state.Committing = no_longer_kept s tx from
  finished_in_kept s from tx state.RollingBack = no_longer_kept s tx from
  finished_in_kept s from tx _ = kit.nothing s

  pub near_finished_kept : (s : NodeState) (from : NodeId) (tx : TxId) → R s (after_finished_at_starter s from tx)
  near_finished_kept s from tx = finished_in_kept s from tx (tx_state_of s tx)

  pub near_backup_finished_kept : (s : NodeState) (from : NodeId) (tx : TxId) (primary : NodeId) →
      R s (after_backup_finished_at_starter s from tx primary)
  near_backup_finished_kept s from tx primary = on_entry_kept s tx (λ (e : TxEntry). record e {
    backups = without_member share_cmp e.backups (record { holder = from; primary = primary });
  }) (entry_of s tx)

  pub near_update_row_kept : (s : NodeState) (from : NodeId) (tx : TxId) (key : Key) (new : Option (List ℕ))
      (ver : CacheVersion) → R s (after_near_update s from tx key new ver)
  near_update_row_kept s from tx key new ver =
      kit.andthen s _ _ (with_near_kept s key (near_updated (near_of s key) key new ver))
      (sent_kept (with_near s key (near_updated (near_of s key) key new ver)) from (msg.NearDone tx key) refl)

  pub fixes_version_kept : (s : NodeState) (tx : TxId) (top : TopVer) → R s (with_version s tx top)
  fixes_version_kept s tx top = on_entry_kept s tx (λ (e : TxEntry). record e { top = Some top; state = state.Active })
      (entry_of s tx)

  pub starts_kept : (s : NodeState) (tx : TxId) (block : Bool) (c : Command) → R s (after_start s tx block c)
  starts_kept s tx block c =
      kit.andthen s _ _ (fixes_version_kept s tx s.seen)
      (kit.andthen _ _ _ (kit.noting (with_version s tx s.seen) (note.Start tx s.seen) refl)
      (does_kept (with_note (with_version s tx s.seen) (note.Start tx s.seen)) tx s.seen block c))

  pub start_command_kept : (s : NodeState) (tx : TxId) (block : Bool) (c : Option Command) →
      R s (after_start_command s tx block c)
  start_command_kept s tx block None = kit.nothing s
  start_command_kept s tx block (Some c) = either_kept s _ _ (takes_version c) (starts_kept s tx block c) (kit.nothing s)

  pub start_in_kept : (s : NodeState) (tx : TxId) (d : SessionState) (st : TxState) → R s (after_start_in s tx d st)
  start_in_kept s tx d state.Idle = start_command_kept s tx d.block d.pending
  start_in_kept s tx d _ = kit.nothing s

  pub start_of_kept : (s : NodeState) (tx : TxId) (d : SessionState) (e : Option TxEntry) → R s (after_start_of s tx d e)
  start_of_kept s tx d None = kit.nothing s
  start_of_kept s tx d (Some e) = start_in_kept s tx d e.state

  pub start_tx_kept : (s : NodeState) (d : SessionState) (tx : Option TxId) → R s (after_start_tx s d tx)
  start_tx_kept s d None = kit.nothing s
  start_tx_kept s d (Some tx) = start_of_kept s tx d (entry_of s tx)

  pub start_session_state_kept : (s : NodeState) (d : Option SessionState) → R s (after_start_session s d)
  start_session_state_kept s None = kit.nothing s
  start_session_state_kept s (Some d) = start_tx_kept s d d.tx

  pub start_each_kept : (s : NodeState) (sessions : List ℕ) → R s (after_start_each s sessions)
  start_each_kept s [] = kit.nothing s
  start_each_kept s (session ∷ more) =
      kit.andthen s _ _ (start_session_state_kept s (session_state_of s session))
      (start_each_kept (after_start_session s (session_state_of s session)) more)

  pub starts_all_kept : (s : NodeState) → R s (after_start_all s)
  starts_all_kept s = either_kept s _ _ (is_open s s.opened) (start_each_kept s (sessions_of s)) (kit.nothing s)

  pub opens_kept : (s : NodeState) (tx : TxId) (m : Mode) (deadline : Option ℕ) (block : Bool) →
      R s (after_open_tx s tx m deadline block)
  opens_kept s tx m deadline block =
      let known = with_entry s tx (new_entry m deadline) in
      kit.andthen s known _ (with_entry_kept s tx (new_entry m deadline))
      (on_session_state_kept known tx.session (λ (d : SessionState). record d {
        tx = Some tx;
        block = block;
        skipping = false;
        started = tx.number;
      })
      (session_state_of known tx.session))

  pub begins_kept : (s : NodeState) (session started : ℕ) (m : Mode) (timeout : ℕ) (tx : Option TxId) →
      R s (after_begin s session started m timeout tx)
  begins_kept s session started m timeout (Some tx) = answered_kept s session answer.TransactionOpen
  begins_kept s session started m timeout None =
      kit.andthen s _ _ (opens_kept s (next_tx s session started) m (deadline_at s.now timeout) true)
      (answered_kept (after_open_tx s (next_tx s session started) m (deadline_at s.now timeout) true) session answer.Done)

  pub told_if_ended_kept : (s : NodeState) (tx : TxId) (f : Fault) (c : Command) (st : TxState) →
      R s (after_tell_if_ended s tx f c st)
  told_if_ended_kept s tx f c state.Ended = tells_kept s tx f c
  told_if_ended_kept s tx f c _ = kit.nothing s

  pub does_if_started_kept : (s : NodeState) (tx : TxId) (block : Bool) (c : Command) (top : Option TopVer) →
      R s (after_run_if_started s tx block c top)
  does_if_started_kept s tx block c None = kit.nothing s
  does_if_started_kept s tx block c (Some top) = does_kept s tx top block c

  pub in_sound_kept : (s : NodeState) (tx : TxId) (block : Bool) (c : Command) (top : Option TopVer) →
      R s (after_command_without_fault s tx block c top)
  in_sound_kept s tx block command.Rollback top = decides_kept s tx false
  in_sound_kept s tx block command.Close top = decides_kept s tx false
  in_sound_kept s tx block c top = does_if_started_kept s tx block c top

  pub in_entry_kept : (s : NodeState) (tx : TxId) (block : Bool) (c : Command) (e : TxEntry) (f : Option Fault) →
      R s (after_command_of_entry s tx block c e f)
  in_entry_kept s tx block c e (Some f) = told_if_ended_kept s tx f c e.state
  in_entry_kept s tx block c e None = in_sound_kept s tx block c e.top

  pub in_transaction_kept : (s : NodeState) (tx : TxId) (block : Bool) (c : Command) (e : Option TxEntry) →
      R s (after_command_in_transaction s tx block c e)
  in_transaction_kept s tx block c None = kit.nothing s
  in_transaction_kept s tx block c (Some e) = in_entry_kept s tx block c e e.fault

  pub access_row_kept : (s : NodeState) (session started : ℕ) (block : Bool) (c : Command) (tx : Option TxId)
      (skipping : Bool) → R s (after_access_command s session started block c tx skipping)
  access_row_kept s session started block c (Some tx) skipping = in_transaction_kept s tx block c (entry_of s tx)
  access_row_kept s session started block c None true = answered_kept s session answer.Skipped
  access_row_kept s session started block c None false = opens_kept s (next_tx s session started) mode.Pessimistic None false

  pub skips_end_kept : (s : NodeState) (session : ℕ) → R s (after_skip_end s session)
  skips_end_kept s session =
      on_session_state_kept s session (λ (d : SessionState). record d { skipping = false; ready = Some answer.Skipped })
      (session_state_of s session)

  pub end_row_kept : (s : NodeState) (session : ℕ) (block : Bool) (c : Command) (tx : Option TxId) (skipping : Bool) →
      R s (after_end_command s session block c tx skipping)
  end_row_kept s session block c (Some tx) skipping = in_transaction_kept s tx block c (entry_of s tx)
  end_row_kept s session block c None true = skips_end_kept s session
  end_row_kept s session block c None false = answered_kept s session answer.NoTransaction

  pub sleeps_kept : (s : NodeState) (session n : ℕ) → R s (after_sleep s session n)
  sleeps_kept s session n =
      on_session_state_kept s session (λ (d : SessionState). record d { wake = Some (moment_after s.now n) })
      (session_state_of s session)

  pub command_row_kept : (s : NodeState) (session started : ℕ) (block skipping : Bool) (tx : Option TxId) (c : Command) →
      R s (after_command s session started block skipping tx c)
  command_row_kept s session started block skipping tx (command.Begin m timeout) = begins_kept s session started m timeout tx
  command_row_kept s session started block skipping tx (command.Sleep n) = sleeps_kept s session n
  command_row_kept s session started block skipping tx command.Commit = end_row_kept s session block command.Commit tx skipping
  command_row_kept s session started block skipping tx command.Rollback =
      end_row_kept s session block command.Rollback tx skipping
  command_row_kept s session started block skipping tx command.Close = end_row_kept s session block command.Close tx skipping
  command_row_kept s session started block skipping tx c = access_row_kept s session started block c tx skipping

  pub pends_kept : (s : NodeState) (session : ℕ) (c : Command) → R s (with_pending s session c)
  pends_kept s session c = on_session_state_kept s session (λ (d : SessionState). record d { pending = Some c })
      (session_state_of s session)

  pub takes_kept : (s : NodeState) (session : ℕ) (d : SessionState) (c : Option Command) →
      R s (after_take_command s session d c)
  takes_kept s session d None = kit.nothing s
  takes_kept s session d (Some c) =
      kit.andthen s _ _ (pends_kept s session c)
      (kit.andthen _ _ _ (kit.noting (with_pending s session c) (note.Call session c) refl)
      (command_row_kept (with_note (with_pending s session c) (note.Call session c)) session d.started d.block d.skipping d.tx
      c))

  pub takes_at_kept : (s : NodeState) (session : ℕ) (d : Option SessionState) → R s (after_call_of s session d)
  takes_at_kept s session None = kit.nothing s
  takes_at_kept s session (Some d) = takes_kept s session d (command_to_give d)

  pub call_row_kept : (s : NodeState) (session : ℕ) → R s (after_call s session)
  call_row_kept s session = takes_at_kept s session (session_state_of s session)

  -- Answers.

  pub hands_kept : (s : NodeState) (session : ℕ) (a : Option Answer) → R s (after_hand_out s session a)
  hands_kept s session None = kit.nothing s
  hands_kept s session (Some a) =
      kit.andthen s _ _ (on_session_state_kept s session (session_state_after_answer a) (session_state_of s session))
      (kit.noting (on_session_state s session (session_state_after_answer a) (session_state_of s session))
      (note.Answer session a) refl)

  pub hands_at_kept : (s : NodeState) (session : ℕ) (d : Option SessionState) → R s (after_answer_of s session d)
  hands_at_kept s session None = kit.nothing s
  hands_at_kept s session (Some d) = hands_kept s session (answer_to_give s d)

  pub answer_row_kept : (s : NodeState) (session : ℕ) → R s (after_answer s session)
  answer_row_kept s session = hands_at_kept s session (session_state_of s session)

  pub asks_kept : (s : NodeState) (tx : TxId) (round : ℕ) (known : List TxId) (nodes : List NodeId) →
      R s (after_ask s tx round known nodes)
  asks_kept s tx round known nodes = kit.sent_all s (outs_to nodes (msg.Edges tx round known))
      (to_tame nodes (msg.Edges tx round known) refl)

  pub searching_kept : (s : NodeState) (tx : TxId) (search : Search) → R s (with_search s tx search)
  searching_kept s tx search =
      on_entry_kept s tx (λ (e : TxEntry). record e { state = state.Searching; search = Some search }) (entry_of s tx)

  pub begins_search_kept : (s : NodeState) (tx : TxId) → R s (after_begin_search s tx)
  begins_search_kept s tx =
      let members : List NodeId = node_set [] s.members in
      let here : NodeState = with_search s tx (new_search members tx) in
      kit.andthen s here (after_ask here tx 1 (tx ∷ []) members) (searching_kept s tx (new_search members tx))
      (asks_kept here tx 1 (tx ∷ []) members)

  pub expire_in_kept : (s : NodeState) (tx : TxId) (now : TxState) → R s (after_expire_in s tx now)
  expire_in_kept s tx state.Waiting = begins_search_kept s tx
  expire_in_kept s tx state.Idle = fails_kept s tx fault.Timeout
  expire_in_kept s tx state.Active = fails_kept s tx fault.Timeout
  expire_in_kept s tx state.Searching = fails_kept s tx fault.Timeout
  expire_in_kept s tx state.Preparing = fails_kept s tx fault.Timeout
  expire_in_kept s tx state.Committing = fails_kept s tx fault.Timeout
  expire_in_kept s tx state.RollingBack = fails_kept s tx fault.Timeout
  expire_in_kept s tx state.Ended = fails_kept s tx fault.Timeout

  pub expire_row_kept : (s : NodeState) (tx : TxId) → R s (after_expire s tx)
  expire_row_kept s tx =
      let here : NodeState = with_note s (note.Expire tx) in
      kit.andthen s here (after_expire_in here tx (tx_state_of s tx)) (kit.noting s (note.Expire tx) refl)
      (expire_in_kept here tx (tx_state_of s tx))

  pub next_round_kept : (s : NodeState) (tx : TxId) (search : Search) → R s (after_next_round s tx search)
  next_round_kept s tx search =
      let here : NodeState = with_search s tx search in
      kit.andthen s here (after_ask here tx search.round search.known search.awaited) (searching_kept s tx search)
      (asks_kept here tx search.round search.known search.awaited)

  pub search_clear_kept : (s : NodeState) (tx : TxId) (search : Search) (named : List TxId) →
      R s (after_search_clear s tx search named)
  search_clear_kept s tx search named =
      let here : NodeState = with_note s (note.Searched tx []) in
      either_kept s (after_fail here tx fault.Timeout) (after_next_round s tx (search_of_next_round s search named))
      (nat_eq (length named) (length search.known))
      (kit.andthen s here (after_fail here tx fault.Timeout) (kit.noting s (note.Searched tx []) refl)
      (fails_kept here tx fault.Timeout))
      (next_round_kept s tx (search_of_next_round s search named))

  pub searched_kept : (s : NodeState) (tx : TxId) (search : Search) (found : Option (List Edge)) →
      R s (after_search s tx search found)
  searched_kept s tx search (Some cycle) =
      let here : NodeState = with_note s (note.Searched tx cycle) in
      kit.andthen s here (after_fail here tx fault.Deadlock) (kit.noting s (note.Searched tx cycle) refl)
      (fails_kept here tx fault.Deadlock)
  searched_kept s tx search None = search_clear_kept s tx search (with_named search.known search.edges)

  pub round_over_kept : (s : NodeState) (tx : TxId) (search : Search) (awaited : List NodeId) →
      R s (after_round s tx search awaited)
  round_over_kept s tx search [] = searched_kept s tx search (cycle_through tx search.edges)
  round_over_kept s tx search (who ∷ more) = searching_kept s tx search

  pub answer_gathered_kept : (s : NodeState) (tx : TxId) (search : Search) → R s (after_gather s tx search)
  answer_gathered_kept s tx search = round_over_kept s tx search search.awaited

  pub edges_ok_for_kept : (s : NodeState) (from : NodeId) (tx : TxId) (round act : ℕ) (waits : List Wait) (search : Search) →
      R s (after_edges_ok_for s from tx round act waits search)
  edges_ok_for_kept s from tx round act waits search =
      either_kept s (after_gather s tx (search_with_answer search from act waits)) s (nat_eq search.round round
      && has node_cmp search.awaited from)
      (answer_gathered_kept s tx (search_with_answer search from act waits)) (kit.nothing s)

  pub edges_ok_in_kept : (s : NodeState) (from : NodeId) (tx : TxId) (round act : ℕ) (waits : List Wait)
      (found : Option Search) → R s (after_edges_ok_in s from tx round act waits found)
  edges_ok_in_kept s from tx round act waits None = kit.nothing s
  edges_ok_in_kept s from tx round act waits (Some search) = edges_ok_for_kept s from tx round act waits search

  pub edges_ok_row_kept : (s : NodeState) (from : NodeId) (tx : TxId) (round act : ℕ) (waits : List Wait) →
      R s (after_edges_ok s from tx round act waits)
  edges_ok_row_kept s from tx round act waits = edges_ok_in_kept s from tx round act waits (search_of s tx)

  -- a search is cut by the loss of a node whose answer it awaits

  pub searches_left_kept : (s : NodeState) (who : NodeId) (txs : List TxId) → R s (after_left_at_each_search s who txs)
  searches_left_kept s who [] = kit.nothing s
  searches_left_kept s who (tx ∷ txs) =
      let here : NodeState = if is_cut who (search_of s tx) then after_fail s tx (fault.Cut who) else s in
      kit.andthen s here (after_left_at_each_search here who txs)
      (either_kept s (after_fail s tx (fault.Cut who)) s (is_cut who (search_of s tx)) (fails_kept s tx (fault.Cut who))
      (kit.nothing s))
      (searches_left_kept here who txs)

  pub search_left_kept : (s : NodeState) (who : NodeId) → R s (after_left_at_searches s who)
  search_left_kept s who = searches_left_kept s who (txs_of s)

  pub phase_over_kept : (s : NodeState) (tx : TxId) (e : TxEntry) (st : TxState) → R s (after_phase s tx e st)
  phase_over_kept s tx e state.Idle = kit.nothing s
  phase_over_kept s tx e state.Active = kit.nothing s
  phase_over_kept s tx e state.Waiting = kit.nothing s
  phase_over_kept s tx e state.Searching = kit.nothing s
  phase_over_kept s tx e state.Preparing = decides_kept s tx true
  phase_over_kept s tx e state.Committing = ends_kept s tx e.state e.outcome e.fault
  phase_over_kept s tx e state.RollingBack = ends_kept s tx e.state e.outcome e.fault
  phase_over_kept s tx e state.Ended = kit.nothing s

  pub near_on_lists_kept : (s : NodeState) (tx : TxId) (e : TxEntry) (awaited : List NodeId) (backups : List Share) →
      R s (after_advance_tx_in s tx e awaited backups)
  near_on_lists_kept s tx e [] [] = phase_over_kept s tx e e.state
  near_on_lists_kept s tx e [] (b ∷ bs) = kit.nothing s
  near_on_lists_kept s tx e (a ∷ more) backups = kit.nothing s

  pub near_on_entry_kept : (s : NodeState) (tx : TxId) (entry : Option TxEntry) → R s (after_advance_tx s tx entry)
  near_on_entry_kept s tx None = kit.nothing s
  near_on_entry_kept s tx (Some e) = near_on_lists_kept s tx e e.awaited e.backups

  pub near_on_each_kept : (s : NodeState) (txs : List TxId) → R s (after_advance_each_tx s txs)
  near_on_each_kept s [] = kit.nothing s
  near_on_each_kept s (tx ∷ txs) = let next = after_advance_tx s tx (entry_of s tx) in
      kit.andthen s next (after_advance_each_tx next txs) (near_on_entry_kept s tx (entry_of s tx)) (near_on_each_kept next txs)

  pub near_on_kept : (s : NodeState) → R s (after_advance_starter s)
  near_on_kept s = near_on_each_kept s (txs_of s)
