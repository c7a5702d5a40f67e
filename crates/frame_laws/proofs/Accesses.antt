-- What a starter does for the accesses of its transactions: each step extends the node.
use Rattle.std.proofs.Common.{Bool, Err, List, [], ◌∷◌, None, Ok, Option, Result, Some, false, true, refl}
use Rattle.std.specs.Prelude.{length, nat_le, ℕ}
use Rattle.frame_laws.proofs.Decisions.{decides_kept, fails_kept}
use Rattle.frame_laws.proofs.Steps.{answered_kept, on_entry_kept, with_near_kept}
use Rattle.act_rows.specs.Accesses.{access_key, after_access, after_access_at, after_access_done, after_access_refused, after_add, after_backup_finished_at_starter, after_commit, after_commit_of, after_commit_of_keys, after_finished_at_starter, after_finished_in, after_get_ok, after_get_ok_for, after_get_ok_in, after_get_ok_of, after_keep_near, after_known_access, after_lock_ok, after_lock_ok_in, after_lock_ok_of, after_near_hit, after_near_update, after_new_access, after_new_key, after_optimistic_access, after_optimistic_read, after_prepare_fail, after_prepare_fail_in, after_prepared, after_prepared_in, after_resume, after_resume_with, after_run_access, after_run_command, after_send_prepares, answer_of_value, is_near_kept, is_pending_access, most_keys, prepare_outs, read_of, shares_of, tx_state_of, value_at, with_found_read, with_lock_asked, with_outcome, with_preparing, with_read, with_touched, with_tx_state, with_value_asked, with_write, without_awaited, without_getting}
use Rattle.act_rows.specs.Decisions.{primaries_at}
use Rattle.act_rows.specs.Steps.{entry_of, is_live, near_of, near_size, primary_at, session_state_of, with_near}
use Rattle.part_model.specs.Copies.{Found}
use Rattle.part_model.specs.NearEntries.{near_entry, near_front, near_put, near_updated}
use Rattle.part_model.specs.Numbers.{sum_with_value}
use Rattle.part_model.specs.declared.near.NearEntry.{NearEntry}
use Rattle.ignite_types.specs.Names.{key_cmp, node_cmp, same_key, share_cmp}
use Rattle.ignite_types.specs.declared.answer.Answer.{Answer}
use Rattle.ignite_types.specs.declared.answer.Fail.{Fail}
use Rattle.ignite_types.specs.declared.names.CacheVersion.{CacheVersion}
use Rattle.ignite_types.specs.declared.names.NodeId.{NodeId}
use Rattle.ignite_types.specs.declared.names.TopVer.{TopVer}
use Rattle.ignite_types.specs.declared.names.TxId.{TxId}
use Rattle.ignite_types.specs.declared.placement.Share.{Share}
use Rattle.ignite_types.specs.declared.scenario.Command.{Command}
use Rattle.ignite_types.specs.declared.scenario.Mode.{Mode}
use Rattle.ignite_types.specs.declared.text.Key.{Key}
use Rattle.node_state.specs.declared.near.Getting.{Getting}
use Rattle.node_state.specs.declared.near.Read.{Read}
use Rattle.node_state.specs.declared.near.TxEntry.{TxEntry}
use Rattle.node_state.specs.declared.near.TxState.{TxState}
use Rattle.node_state.specs.Node.{NodeState}
use Rattle.node_state.specs.declared.session.SessionState.{SessionState}
use Rattle.ordered_set.specs.Members.{has, with_member, without_member}
use Rattle.ordered_table.specs.Entries.{put}
use Rattle.ignite_types.specs.declared.answer.Answer.TheVariants as answer
use Rattle.ignite_types.specs.declared.scenario.Command.TheVariants as command
use Rattle.ignite_types.specs.declared.answer.Fault.TheVariants as fault
use Rattle.ignite_types.specs.declared.scenario.Mode.TheVariants as mode
use Rattle.ignite_types.specs.declared.message.Message.TheVariants as msg
use Rattle.node_state.specs.declared.near.TxState.TheVariants as state
use Rattle.frame_laws.proofs.Plain.{prepare_plain}
use Rattle.frame_laws.specs.Kits.{ClosedUnderWatchedSteps}
use Rattle.frame_laws.proofs.Kits.{either_kept, sent_kept}

module _ {watched : Bool} (R : NodeState → NodeState → Type 0) (kit : ClosedUnderWatchedSteps watched R) where
  pub keeps_read_kept : (s : NodeState) (tx : TxId) (key : Key) (read : Read) → R s (with_read s tx key read)
  keeps_read_kept s tx key read =
      on_entry_kept R kit s tx (λ (e : TxEntry). record e { reads = put key_cmp e.reads key read }) (entry_of s tx)

  pub keeps_write_kept : (s : NodeState) (tx : TxId) (key : Key) (new : Option (List ℕ)) → R s (with_write s tx key new)
  keeps_write_kept s tx key new =
      on_entry_kept R kit s tx (λ (e : TxEntry). record e { writes = put key_cmp e.writes key new }) (entry_of s tx)

  pub takes_state_kept : (s : NodeState) (tx : TxId) (st : TxState) → R s (with_tx_state s tx st)
  takes_state_kept s tx st = on_entry_kept R kit s tx (λ (e : TxEntry). record e { state = st }) (entry_of s tx)

  pub takes_outcome_kept : (s : NodeState) (tx : TxId) (a : Answer) → R s (with_outcome s tx a)
  takes_outcome_kept s tx a = on_entry_kept R kit s tx (λ (e : TxEntry). record e { outcome = Some a }) (entry_of s tx)

  pub touches_kept : (s : NodeState) (tx : TxId) (key : Key) → R s (with_touched s tx key)
  touches_kept s tx key = on_entry_kept R kit s tx (λ (e : TxEntry). record e { keys = with_member key_cmp e.keys key })
      (entry_of s tx)

  pub asks_lock_kept : (s : NodeState) (tx : TxId) (key : Key) (primary : NodeId) → R s (with_lock_asked s tx key primary)
  asks_lock_kept s tx key primary = on_entry_kept R kit s tx (λ (e : TxEntry). record e {
    keys = with_member key_cmp e.keys key;
    asked = with_member node_cmp e.asked primary;
    state = state.Waiting;
  }) (entry_of s tx)

  pub asks_value_kept : (s : NodeState) (tx : TxId) (key : Key) (near : Bool) → R s (with_value_asked s tx key near)
  asks_value_kept s tx key near = on_entry_kept R kit s tx (λ (e : TxEntry). record e {
    keys = with_member key_cmp e.keys key;
    getting = Some (record { key = key; near = near });
  }) (entry_of s tx)

  pub got_value_kept : (s : NodeState) (tx : TxId) → R s (without_getting s tx)
  got_value_kept s tx = on_entry_kept R kit s tx (λ (e : TxEntry). record e { getting = None }) (entry_of s tx)

  -- The commit's first phase.

  pub begins_prepare_kept : (s : NodeState) (tx : TxId) (nodes : List NodeId) (shares : List Share) →
      R s (with_preparing s tx nodes shares)
  begins_prepare_kept s tx nodes shares = on_entry_kept R kit s tx (λ (e : TxEntry). record e {
    state = state.Preparing;
    asked = nodes;
    awaited = nodes;
    shares = shares;
  }) (entry_of s tx)

  pub prepares_kept : (s : NodeState) (tx : TxId) (top : TopVer) (entry : TxEntry) (nodes : List NodeId)
      (shares : List Share) → R s (after_send_prepares s tx top entry nodes shares)
  prepares_kept s tx top entry nodes shares =
      kit.andthen s _ _ (begins_prepare_kept s tx nodes shares)
      (kit.sent_all (with_preparing s tx nodes shares) (prepare_outs s tx top entry shares nodes)
      (prepare_plain s tx top entry shares nodes))

  pub commits_with_kept : (s : NodeState) (tx : TxId) (top : TopVer) (entry : TxEntry) (keys : List Key) →
      R s (after_commit_of_keys s tx top entry keys)
  commits_with_kept s tx top entry [] = decides_kept R kit s tx true
  commits_with_kept s tx top entry (key ∷ keys) =
      prepares_kept s tx top entry (primaries_at s (key ∷ keys)) (shares_of s.installed (key ∷ keys))

  pub commits_for_kept : (s : NodeState) (tx : TxId) (top : TopVer) (e : Option TxEntry) → R s (after_commit_of s tx top e)
  commits_for_kept s tx top None = kit.nothing s
  commits_for_kept s tx top (Some entry) = commits_with_kept s tx top entry entry.keys

  pub commits_kept : (s : NodeState) (tx : TxId) (top : TopVer) → R s (after_commit s tx top)
  commits_kept s tx top = commits_for_kept s tx top (entry_of s tx)

  -- Accesses.

  pub access_done_kept : (s : NodeState) (tx : TxId) (top : TopVer) (block : Bool) (a : Answer) →
      R s (after_access_done s tx top block a)
  access_done_kept s tx top true a = answered_kept R kit s tx.session a
  access_done_kept s tx top false a = kit.andthen s _ _ (takes_outcome_kept s tx a) (commits_kept (with_outcome s tx a) tx top)

  pub access_refused_kept : (s : NodeState) (tx : TxId) (block : Bool) (a : Answer) → R s (after_access_refused s tx block a)
  access_refused_kept s tx true a = answered_kept R kit s tx.session a
  access_refused_kept s tx false a =
      kit.andthen s _ _ (takes_outcome_kept s tx a) (decides_kept R kit (with_outcome s tx a) tx false)

  pub adds_kept : (s : NodeState) (tx : TxId) (top : TopVer) (block : Bool) (key : Key) (r : Result (List ℕ) Answer) →
      R s (after_add s tx top block key r)
  adds_kept s tx top block key (Ok value) =
      kit.andthen s _ _ (keeps_write_kept s tx key (Some value))
      (access_done_kept (with_write s tx key (Some value)) tx top block (answer.Found value))
  adds_kept s tx top block key (Err a) = access_refused_kept s tx block a

  pub does_known_kept : (s : NodeState) (tx : TxId) (top : TopVer) (block : Bool) (c : Command) →
      R s (after_known_access s tx top block c)
  does_known_kept s tx top block (command.Get key) =
      access_done_kept s tx top block (answer_of_value (value_at (entry_of s tx) key))
  does_known_kept s tx top block (command.Put key value) =
      kit.andthen s _ _ (keeps_write_kept s tx key (Some value))
      (access_done_kept (with_write s tx key (Some value)) tx top block answer.Done)
  does_known_kept s tx top block (command.Remove key) =
      kit.andthen s _ _ (keeps_write_kept s tx key None) (access_done_kept (with_write s tx key None) tx top block answer.Done)
  does_known_kept s tx top block (command.Add key amount) =
      adds_kept s tx top block key (sum_with_value (value_at (entry_of s tx) key) amount)
  does_known_kept s tx top block _ = kit.nothing s

  pub near_hit_kept : (s : NodeState) (tx : TxId) (key : Key) (e : NearEntry) → R s (after_near_hit s tx key e)
  near_hit_kept s tx key e =
      kit.andthen s _ _ (with_near_kept R kit s key (near_front (near_of s key) e))
      (keeps_read_kept (with_near s key (near_front (near_of s key) e)) tx key (record { found = Some e.value; ver = e.ver }))

  pub optimistic_read_kept : (s : NodeState) (tx : TxId) (top : TopVer) (block : Bool) (c : Command) (key : Key)
      (primary : NodeId) (e : Option NearEntry) → R s (after_optimistic_read s tx top block c key primary e)
  optimistic_read_kept s tx top block c key primary (Some e) =
      kit.andthen s _ _ (touches_kept s tx key)
      (kit.andthen _ _ _ (near_hit_kept (with_touched s tx key) tx key e)
      (does_known_kept (after_near_hit (with_touched s tx key) tx key e) tx top block c))
  optimistic_read_kept s tx top block c key primary None =
      let near = is_near_kept s key in
      kit.andthen s _ _ (asks_value_kept s tx key near) (sent_kept R kit (with_value_asked s tx key near) primary
      (msg.Get tx key near) refl)

  pub optimistic_access_kept : (s : NodeState) (tx : TxId) (top : TopVer) (block : Bool) (c : Command) (key : Key)
      (primary : NodeId) → R s (after_optimistic_access s tx top block c key primary)
  optimistic_access_kept s tx top block (command.Get k) key primary =
      optimistic_read_kept s tx top block (command.Get k) key primary (near_entry (near_of s key) key)
  optimistic_access_kept s tx top block (command.Add k amount) key primary =
      optimistic_read_kept s tx top block (command.Add k amount) key primary (near_entry (near_of s key) key)
  optimistic_access_kept s tx top block c key primary =
      kit.andthen s _ _ (touches_kept s tx key) (does_known_kept (with_touched s tx key) tx top block c)

  pub new_access_kept : (s : NodeState) (tx : TxId) (top : TopVer) (block : Bool) (c : Command) (key : Key) (primary : NodeId)
      (m : Mode) → R s (after_new_access s tx top block c key primary m)
  new_access_kept s tx top block c key primary mode.Pessimistic =
      kit.andthen s _ _ (asks_lock_kept s tx key primary) (sent_kept R kit (with_lock_asked s tx key primary) primary
      (msg.Lock tx top key) refl)
  new_access_kept s tx top block c key primary mode.Optimistic = optimistic_access_kept s tx top block c key primary

  pub new_key_kept : (s : NodeState) (tx : TxId) (top : TopVer) (block : Bool) (c : Command) (key : Key) (primary : NodeId)
      (e : TxEntry) → R s (after_new_key s tx top block c key primary e)
  new_key_kept s tx top block c key primary e =
      either_kept R kit s _ _ (nat_le most_keys (length e.keys))
      (access_refused_kept s tx block answer.TooManyKeys)
      (either_kept R kit s _ _ (is_live s primary)
      (new_access_kept s tx top block c key primary e.mode)
      (fails_kept R kit s tx (fault.NodeLost primary)))

  pub accesses_at_kept : (s : NodeState) (tx : TxId) (top : TopVer) (block : Bool) (c : Command) (key : Key)
      (primary : Option NodeId) (e : TxEntry) → R s (after_access_at s tx top block c key primary e)
  accesses_at_kept s tx top block c key None e = access_refused_kept s tx block (answer.NoCache key.cache)
  accesses_at_kept s tx top block c key (Some primary) e =
      either_kept R kit s _ _ (has key_cmp e.keys key)
      (does_known_kept s tx top block c)
      (new_key_kept s tx top block c key primary e)

  pub accesses_kept : (s : NodeState) (tx : TxId) (top : TopVer) (block : Bool) (c : Command) (key : Key)
      (e : Option TxEntry) → R s (after_access s tx top block c key e)
  accesses_kept s tx top block c key None = kit.nothing s
  accesses_kept s tx top block c key (Some e) = accesses_at_kept s tx top block c key (primary_at s key) e

  pub does_access_kept : (s : NodeState) (tx : TxId) (top : TopVer) (block : Bool) (c : Command) (key : Option Key) →
      R s (after_run_access s tx top block c key)
  does_access_kept s tx top block command.Commit None = commits_kept s tx top
  does_access_kept s tx top block c None = kit.nothing s
  does_access_kept s tx top block c (Some key) = accesses_kept s tx top block c key (entry_of s tx)

  pub does_kept : (s : NodeState) (tx : TxId) (top : TopVer) (block : Bool) (c : Command) →
      R s (after_run_command s tx top block c)
  does_kept s tx top block c = does_access_kept s tx top block c (access_key c)

  -- Answers of the primaries.

  pub keeps_found_kept : (s : NodeState) (tx : TxId) (key : Key) (found : Found) (c : Command) →
      R s (with_found_read s tx key found c)
  keeps_found_kept s tx key found (command.Get k) = keeps_read_kept s tx key (read_of found)
  keeps_found_kept s tx key found (command.Add k amount) = keeps_read_kept s tx key (read_of found)
  keeps_found_kept s tx key found _ = kit.nothing s

  pub goes_on_with_kept : (s : NodeState) (tx : TxId) (top : TopVer) (block : Bool) (key : Key) (found : Found)
      (c : Option Command) → R s (after_resume_with s tx top block key found c)
  goes_on_with_kept s tx top block key found None = kit.nothing s
  goes_on_with_kept s tx top block key found (Some c) =
      kit.andthen s _ _ (keeps_found_kept s tx key found c) (does_known_kept (with_found_read s tx key found c) tx top block c)

  pub goes_on_at_kept : (s : NodeState) (tx : TxId) (key : Key) (found : Found) (top : Option TopVer)
      (d : Option SessionState) → R s (after_resume s tx key found top d)
  goes_on_at_kept s tx key found (Some top) (Some d) = goes_on_with_kept s tx top d.block key found d.pending
  goes_on_at_kept s tx key found _ _ = kit.nothing s

  pub lock_ok_in_kept : (s : NodeState) (tx : TxId) (key : Key) (found : Found) (e : TxEntry) (st : TxState) →
      R s (after_lock_ok_in s tx key found e st)
  lock_ok_in_kept s tx key found e state.Waiting =
      either_kept R kit s _ _ (is_pending_access key (session_state_of s tx.session))
      (kit.andthen s _ _ (takes_state_kept s tx state.Active)
      (goes_on_at_kept (with_tx_state s tx state.Active) tx key found e.top (session_state_of s tx.session)))
      (kit.nothing s)
  lock_ok_in_kept s tx key found e _ = kit.nothing s

  pub lock_ok_by_kept : (s : NodeState) (tx : TxId) (key : Key) (found : Found) (e : Option TxEntry) →
      R s (after_lock_ok_of s tx key found e)
  lock_ok_by_kept s tx key found None = kit.nothing s
  lock_ok_by_kept s tx key found (Some e) = lock_ok_in_kept s tx key found e e.state

  pub lock_ok_row_kept : (s : NodeState) (tx : TxId) (key : Key) (found : Found) → R s (after_lock_ok s tx key found)
  lock_ok_row_kept s tx key found = lock_ok_by_kept s tx key found (entry_of s tx)

  pub near_kept_kept : (s : NodeState) (key : Key) (near : Bool) (found : Found) → R s (after_keep_near s key near found)
  near_kept_kept s key true (Some (value, ver)) =
      with_near_kept R kit s key (near_put (near_size s key) (near_of s key) (record { key = key; value = value; ver = ver }))
  near_kept_kept s key _ _ = kit.nothing s

  pub get_ok_for_kept : (s : NodeState) (tx : TxId) (key : Key) (found : Found) (e : TxEntry) (getting : Getting) →
      R s (after_get_ok_for s tx key found e getting)
  get_ok_for_kept s tx key found e getting =
      either_kept R kit s _ _ (same_key getting.key key)
      (kit.andthen s _ _ (got_value_kept s tx)
      (kit.andthen _ _ _ (near_kept_kept (without_getting s tx) key getting.near found)
      (goes_on_at_kept (after_keep_near (without_getting s tx) key getting.near found) tx key found e.top
      (session_state_of s tx.session))))
      (kit.nothing s)

  pub get_ok_in_kept : (s : NodeState) (tx : TxId) (key : Key) (found : Found) (e : TxEntry) (getting : Option Getting) →
      R s (after_get_ok_in s tx key found e getting)
  get_ok_in_kept s tx key found e None = kit.nothing s
  get_ok_in_kept s tx key found e (Some getting) = get_ok_for_kept s tx key found e getting

  pub get_ok_by_kept : (s : NodeState) (tx : TxId) (key : Key) (found : Found) (e : Option TxEntry) →
      R s (after_get_ok_of s tx key found e)
  get_ok_by_kept s tx key found None = kit.nothing s
  get_ok_by_kept s tx key found (Some e) = get_ok_in_kept s tx key found e e.getting

  pub get_ok_row_kept : (s : NodeState) (tx : TxId) (key : Key) (found : Found) → R s (after_get_ok s tx key found)
  get_ok_row_kept s tx key found = get_ok_by_kept s tx key found (entry_of s tx)

  -- Prepared, PrepareFail, Finished, BackupFinished.

  pub no_longer_kept : (s : NodeState) (tx : TxId) (from : NodeId) → R s (without_awaited s tx from)
  no_longer_kept s tx from =
      on_entry_kept R kit s tx (λ (e : TxEntry). record e { awaited = without_member node_cmp e.awaited from }) (entry_of s tx)

  pub prepared_in_kept : (s : NodeState) (from : NodeId) (tx : TxId) (st : TxState) → R s (after_prepared_in s from tx st)
  prepared_in_kept s from tx state.Preparing = no_longer_kept s tx from
  prepared_in_kept s from tx _ = kit.nothing s

  pub prepared_row_kept : (s : NodeState) (from : NodeId) (tx : TxId) → R s (after_prepared s from tx)
  prepared_row_kept s from tx = prepared_in_kept s from tx (tx_state_of s tx)

  pub prepare_fail_in_kept : (s : NodeState) (tx : TxId) (why : Fail) (st : TxState) → R s (after_prepare_fail_in s tx why st)
  prepare_fail_in_kept s tx why state.Preparing = fails_kept R kit s tx (fault.Check why)
  prepare_fail_in_kept s tx why _ = kit.nothing s

  pub prepare_fail_row_kept : (s : NodeState) (tx : TxId) (why : Fail) → R s (after_prepare_fail s tx why)
  prepare_fail_row_kept s tx why = prepare_fail_in_kept s tx why (tx_state_of s tx)

  pub finished_in_kept : (s : NodeState) (from : NodeId) (tx : TxId) (st : TxState) → R s (after_finished_in s from tx st)
  finished_in_kept s from tx state.Committing = no_longer_kept s tx from
  finished_in_kept s from tx state.RollingBack = no_longer_kept s tx from
  finished_in_kept s from tx _ = kit.nothing s

  pub near_finished_kept : (s : NodeState) (from : NodeId) (tx : TxId) → R s (after_finished_at_starter s from tx)
  near_finished_kept s from tx = finished_in_kept s from tx (tx_state_of s tx)

  pub near_backup_finished_kept : (s : NodeState) (from : NodeId) (tx : TxId) (primary : NodeId) →
      R s (after_backup_finished_at_starter s from tx primary)
  near_backup_finished_kept s from tx primary = on_entry_kept R kit s tx (λ (e : TxEntry). record e {
    backups = without_member share_cmp e.backups (record { holder = from; primary = primary });
  }) (entry_of s tx)

  pub near_update_row_kept : (s : NodeState) (from : NodeId) (tx : TxId) (key : Key) (new : Option (List ℕ))
      (ver : CacheVersion) → R s (after_near_update s from tx key new ver)
  near_update_row_kept s from tx key new ver =
      kit.andthen s _ _ (with_near_kept R kit s key (near_updated (near_of s key) key new ver))
      (sent_kept R kit (with_near s key (near_updated (near_of s key) key new ver)) from (msg.NearDone tx key) refl)
