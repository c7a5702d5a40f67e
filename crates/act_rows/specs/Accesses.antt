-- What a starter does for the accesses of its transactions, and the answers of the primaries to them.
use Rattle.std.specs.Option.{option_and_then, option_map}
use Rattle.std.specs.Prelude.{Bool, Err, None, Ok, Option, Result, Some, [], false, if◌then◌else◌, length, nat_eq, nat_le, not, true, unwrap_or, ℕ, ◌&&◌, ◌∷◌}
use Rattle.act_rows.specs.Decisions.{after_decide, after_fail, primaries_at}
use Rattle.act_rows.specs.Steps.{entry_of, is_holder, is_live, near_of, near_size, on_entry, primary_at, session_state_of, with_answer_ready, with_near, with_out, with_outs}
use Rattle.part_model.specs.Copies.{Found, absent_version}
use Rattle.part_model.specs.NearEntries.{near_entry, near_front, near_put, near_updated}
use Rattle.part_model.specs.Numbers.{sum_with_value}
use Rattle.part_model.specs.Orders.{is_node}
use Rattle.part_model.specs.declared.near.NearEntry.{NearEntry}
use Rattle.ignite_types.specs.Names.{key_cmp, node_cmp, same_key, share_cmp}
use Rattle.ignite_types.specs.Placement.{first_owner, row_of}
use Rattle.ignite_types.specs.declared.answer.Answer.{Answer}
use Rattle.ignite_types.specs.declared.answer.Fail.{Fail}
use Rattle.ignite_types.specs.declared.limits.TheConstants.{TRANSACTION_KEYS}
use Rattle.ignite_types.specs.declared.list.List.{List}
use Rattle.ignite_types.specs.declared.message.Out.{Out}
use Rattle.ignite_types.specs.declared.message.Wanted.{Wanted}
use Rattle.ignite_types.specs.declared.names.CacheVersion.{CacheVersion}
use Rattle.ignite_types.specs.declared.names.NodeId.{NodeId}
use Rattle.ignite_types.specs.declared.names.TopVer.{TopVer}
use Rattle.ignite_types.specs.declared.names.TxId.{TxId}
use Rattle.ignite_types.specs.declared.placement.PartMap.{PartMap}
use Rattle.ignite_types.specs.declared.placement.Row.{Row}
use Rattle.ignite_types.specs.declared.placement.Share.{Share}
use Rattle.ignite_types.specs.declared.scenario.Command.{Command}
use Rattle.ignite_types.specs.declared.scenario.Mode.{Mode}
use Rattle.ignite_types.specs.declared.text.Key.{Key}
use Rattle.node_state.specs.declared.near.Getting.{Getting}
use Rattle.node_state.specs.declared.near.Read.{Read}
use Rattle.node_state.specs.declared.near.TxEntry.{TxEntry}
use Rattle.node_state.specs.declared.near.TxState.{TxState}
use Rattle.node_state.specs.Node.{NodeState}
use Rattle.node_state.specs.declared.session.SessionState.{SessionState}
use Rattle.ordered_set.specs.Members.{has, with_member, without_member}
use Rattle.ordered_table.specs.Entries.{at, put}
use Rattle.ignite_types.specs.declared.answer.Answer.TheVariants as answer
use Rattle.ignite_types.specs.declared.scenario.Command.TheVariants as command
use Rattle.ignite_types.specs.declared.answer.Fault.TheVariants as fault
use Rattle.ignite_types.specs.declared.scenario.Mode.TheVariants as mode
use Rattle.ignite_types.specs.declared.message.Message.TheVariants as msg
use Rattle.node_state.specs.declared.near.TxState.TheVariants as state

-- what is kept of a read: the value with its version, or that nothing was there
abbrev pub read_of : Found → Read
read_of None = record { found = None; ver = absent_version }
read_of (Some (value, ver)) = record { found = Some value; ver = ver }

abbrev pub value_of_read : Option Read → Option (List ℕ)
value_of_read None = None
value_of_read (Some read) = read.found

abbrev pub written_or_read : Option (Option (List ℕ)) → Option Read → Option (List ℕ)
written_or_read None read = value_of_read read
written_or_read (Some new) read = new

-- the value before an access: the transaction's own last write of the key, or else what it has read
abbrev pub value_before : TxEntry → Key → Option (List ℕ)
value_before entry key = written_or_read (at key_cmp entry.writes key) (at key_cmp entry.reads key)

abbrev pub value_at : Option TxEntry → Key → Option (List ℕ)
value_at None key = None
value_at (Some entry) key = value_before entry key

abbrev pub answer_of_value : Option (List ℕ) → Answer
answer_of_value None = answer.Absent
answer_of_value (Some value) = answer.Found value

-- Small steps on a transaction's entry; nothing where there is none.

abbrev pub with_read : NodeState → TxId → Key → Read → NodeState
with_read s tx key read = on_entry s tx (λ (e : TxEntry). record e { reads = put key_cmp e.reads key read }) (entry_of s tx)

abbrev pub with_write : NodeState → TxId → Key → Option (List ℕ) → NodeState
with_write s tx key new = on_entry s tx (λ (e : TxEntry). record e { writes = put key_cmp e.writes key new }) (entry_of s tx)

abbrev pub with_tx_state : NodeState → TxId → TxState → NodeState
with_tx_state s tx st = on_entry s tx (λ (e : TxEntry). record e { state = st }) (entry_of s tx)

abbrev pub with_outcome : NodeState → TxId → Answer → NodeState
with_outcome s tx a = on_entry s tx (λ (e : TxEntry). record e { outcome = Some a }) (entry_of s tx)

abbrev pub with_touched : NodeState → TxId → Key → NodeState
with_touched s tx key = on_entry s tx (λ (e : TxEntry). record e { keys = with_member key_cmp e.keys key }) (entry_of s tx)

-- the key is touched, and its primary is asked for the lock
abbrev pub with_lock_asked : NodeState → TxId → Key → NodeId → NodeState
with_lock_asked s tx key primary = on_entry s tx (λ (e : TxEntry). record e {
  keys = with_member key_cmp e.keys key;
  asked = with_member node_cmp e.asked primary;
  state = state.Waiting;
}) (entry_of s tx)

-- the key is touched, and its primary is asked for what it has
abbrev pub with_value_asked : NodeState → TxId → Key → Bool → NodeState
with_value_asked s tx key near = on_entry s tx (λ (e : TxEntry). record e {
  keys = with_member key_cmp e.keys key;
  getting = Some (record { key = key; near = near });
}) (entry_of s tx)

abbrev pub without_getting : NodeState → TxId → NodeState
without_getting s tx = on_entry s tx (λ (e : TxEntry). record e { getting = None }) (entry_of s tx)

-- The commit's first phase.

abbrev pub shares_for : List Share → List NodeId → NodeId → List Share
shares_for shares [] primary = shares
shares_for shares (holder ∷ more) primary =
    shares_for (with_member share_cmp shares (record { holder = holder; primary = primary })) more primary

abbrev pub shares_of_row : List Share → Row → Option NodeId → List Share
shares_of_row shares row None = shares
shares_of_row shares row (Some primary) = shares_for (shares_for shares row.owners primary) row.movers primary

abbrev pub shares_at : List Share → Option Row → List Share
shares_at shares None = shares
shares_at shares (Some row) = shares_of_row shares row (first_owner row)

abbrev pub shares_from : PartMap → List Share → List Key → List Share
shares_from m shares [] = shares
shares_from m shares (key ∷ keys) = shares_from m (shares_at shares (row_of m key)) keys

-- for each touched partition each holder, with its primary
abbrev pub shares_of : Option PartMap → List Key → List Share
shares_of None keys = []
shares_of (Some m) keys = shares_from m [] keys

abbrev pub version_read : Option Read → Option CacheVersion
version_read None = None
version_read (Some read) = Some read.ver

-- the primary's touched keys, each with the version that came with its read
abbrev pub wanted_at : NodeState → TxEntry → NodeId → List Key → List Wanted
wanted_at s entry node [] = []
wanted_at s entry node (key ∷ keys) = if is_node node (primary_at s key)
    then record { key = key; had = version_read (at key_cmp entry.reads key) } ∷ wanted_at s entry node keys
    else wanted_at s entry node keys

-- the primary's written keys with their last writes
abbrev pub writes_at : NodeState → NodeId → List (Key × Option (List ℕ)) → List (Key × Option (List ℕ))
writes_at s node [] = []
writes_at s node (w ∷ ws) = if is_node node (primary_at s w.0) then w ∷ writes_at s node ws else writes_at s node ws

-- Prepare, to each of these primaries
abbrev pub prepare_outs : NodeState → TxId → TopVer → TxEntry → List Share → List NodeId → List Out
prepare_outs s tx top entry shares [] = []
prepare_outs s tx top entry shares (node ∷ more) =
    record {
      to = node;
      msg = msg.Prepare tx top entry.mode shares (wanted_at s entry node entry.keys)
          (writes_at s node entry.writes);
    }
    ∷ prepare_outs s tx top entry shares more

-- each primary of a touched key is asked, and awaited
abbrev pub with_preparing : NodeState → TxId → List NodeId → List Share → NodeState
with_preparing s tx nodes shares = on_entry s tx (λ (e : TxEntry). record e {
  state = state.Preparing;
  asked = nodes;
  awaited = nodes;
  shares = shares;
}) (entry_of s tx)

abbrev pub after_send_prepares : NodeState → TxId → TopVer → TxEntry → List NodeId → List Share → NodeState
after_send_prepares s tx top entry nodes shares =
    with_outs (with_preparing s tx nodes shares) (prepare_outs s tx top entry shares nodes)

-- without keys the decision comes at once
abbrev pub after_commit_of_keys : NodeState → TxId → TopVer → TxEntry → List Key → NodeState
after_commit_of_keys s tx top entry [] = after_decide s tx true
after_commit_of_keys s tx top entry (key ∷ keys) =
    after_send_prepares s tx top entry (primaries_at s (key ∷ keys)) (shares_of s.installed (key ∷ keys))

abbrev pub after_commit_of : NodeState → TxId → TopVer → Option TxEntry → NodeState
after_commit_of s tx top None = s
after_commit_of s tx top (Some entry) = after_commit_of_keys s tx top entry entry.keys

abbrev pub after_commit : NodeState → TxId → TopVer → NodeState
after_commit s tx top = after_commit_of s tx top (entry_of s tx)

-- Accesses.

-- an access is done: in a block it is answered, a bare one is committed first
abbrev pub after_access_done : NodeState → TxId → TopVer → Bool → Answer → NodeState
after_access_done s tx top true a = with_answer_ready s tx.session a
after_access_done s tx top false a = after_commit (with_outcome s tx a) tx top

-- an access can't be done: a block goes on, a bare one is rolled back first
abbrev pub after_access_refused : NodeState → TxId → Bool → Answer → NodeState
after_access_refused s tx true a = with_answer_ready s tx.session a
after_access_refused s tx false a = after_decide (with_outcome s tx a) tx false

abbrev pub after_add : NodeState → TxId → TopVer → Bool → Key → Result (List ℕ) Answer → NodeState
after_add s tx top block key (Ok value) =
    after_access_done (with_write s tx key (Some value)) tx top block (answer.Found value)
after_add s tx top block key (Err a) = after_access_refused s tx block a

-- an access of a key that the transaction has, or whose value is known
abbrev pub after_known_access : NodeState → TxId → TopVer → Bool → Command → NodeState
after_known_access s tx top block (command.Get key) =
    after_access_done s tx top block (answer_of_value (value_at (entry_of s tx) key))
after_known_access s tx top block (command.Put key value) =
    after_access_done (with_write s tx key (Some value)) tx top block answer.Done
after_known_access s tx top block (command.Remove key) = after_access_done (with_write s tx key None) tx top block answer.Done
after_known_access s tx top block (command.Add key amount) =
    after_add s tx top block key (sum_with_value (value_at (entry_of s tx) key) amount)
after_known_access s tx top block _ = s

-- whether what this Get finds is to be kept in the near cache
abbrev pub is_near_kept : NodeState → Key → Bool
is_near_kept s key = not (nat_eq (near_size s key) 0) && not (is_holder s s.me key)

-- a near entry is used: it comes to the front and counts as read
abbrev pub after_near_hit : NodeState → TxId → Key → NearEntry → NodeState
after_near_hit s tx key e =
    with_read (with_near s key (near_front (near_of s key) e)) tx key (record { found = Some e.value; ver = e.ver })

-- a value that an optimistic access needs: from the near cache, or from the primary
abbrev pub after_optimistic_read : NodeState → TxId → TopVer → Bool → Command → Key → NodeId → Option NearEntry → NodeState
after_optimistic_read s tx top block c key primary (Some e) =
    after_known_access (after_near_hit (with_touched s tx key) tx key e) tx top block c
after_optimistic_read s tx top block c key primary None = let near = is_near_kept s key in
    with_out (with_value_asked s tx key near) primary (msg.Get tx key near)

abbrev pub after_optimistic_access : NodeState → TxId → TopVer → Bool → Command → Key → NodeId → NodeState
after_optimistic_access s tx top block (command.Get k) key primary =
    after_optimistic_read s tx top block (command.Get k) key primary (near_entry (near_of s key) key)
after_optimistic_access s tx top block (command.Add k amount) key primary =
    after_optimistic_read s tx top block (command.Add k amount) key primary (near_entry (near_of s key) key)
after_optimistic_access s tx top block c key primary = after_known_access (with_touched s tx key) tx top block c

abbrev pub after_new_access : NodeState → TxId → TopVer → Bool → Command → Key → NodeId → Mode → NodeState
after_new_access s tx top block c key primary mode.Pessimistic =
    with_out (with_lock_asked s tx key primary) primary (msg.Lock tx top key)
after_new_access s tx top block c key primary mode.Optimistic = after_optimistic_access s tx top block c key primary

-- how many keys a transaction may touch
abbrev pub most_keys : ℕ
most_keys = TRANSACTION_KEYS

-- a new key: too many of them, a primary that was seen to leave, or an access at the primary
abbrev pub after_new_key : NodeState → TxId → TopVer → Bool → Command → Key → NodeId → TxEntry → NodeState
after_new_key s tx top block c key primary e = if nat_le most_keys (length e.keys)
    then after_access_refused s tx block answer.TooManyKeys
    else if is_live s primary then after_new_access s tx top block c key primary e.mode else after_fail s tx
    (fault.NodeLost primary)

abbrev pub after_access_at : NodeState → TxId → TopVer → Bool → Command → Key → Option NodeId → TxEntry → NodeState
after_access_at s tx top block c key None e = after_access_refused s tx block (answer.NoCache key.cache)
after_access_at s tx top block c key (Some primary) e = if has key_cmp e.keys key
    then after_known_access s tx top block c
    else after_new_key s tx top block c key primary e

abbrev pub after_access : NodeState → TxId → TopVer → Bool → Command → Key → Option TxEntry → NodeState
after_access s tx top block c key None = s
after_access s tx top block c key (Some e) = after_access_at s tx top block c key (primary_at s key) e

-- the key of an access
abbrev pub access_key : Command → Option Key
access_key (command.Get key) = Some key
access_key (command.Put key value) = Some key
access_key (command.Remove key) = Some key
access_key (command.Add key amount) = Some key
access_key _ = None

abbrev pub after_run_access : NodeState → TxId → TopVer → Bool → Command → Option Key → NodeState
after_run_access s tx top block command.Commit None = after_commit s tx top
after_run_access s tx top block c None = s
after_run_access s tx top block c (Some key) = after_access s tx top block c key (entry_of s tx)

-- a command of a transaction whose version is fixed, in a block or bare
abbrev pub after_run_command : NodeState → TxId → TopVer → Bool → Command → NodeState
after_run_command s tx top block c = after_run_access s tx top block c (access_key c)

-- Answers of the primaries.

-- a read keeps what was found
abbrev pub with_found_read : NodeState → TxId → Key → Found → Command → NodeState
with_found_read s tx key found (command.Get k) = with_read s tx key (read_of found)
with_found_read s tx key found (command.Add k amount) = with_read s tx key (read_of found)
with_found_read s tx key found _ = s

abbrev pub is_that_key : Key → Option Key → Bool
is_that_key key None = false
is_that_key key (Some other) = same_key key other

-- the pending command has what it waited for: it is done
abbrev pub after_resume_with : NodeState → TxId → TopVer → Bool → Key → Found → Option Command → NodeState
after_resume_with s tx top block key found None = s
after_resume_with s tx top block key found (Some c) = after_known_access (with_found_read s tx key found c) tx top block c

abbrev pub after_resume : NodeState → TxId → Key → Found → Option TopVer → Option SessionState → NodeState
after_resume s tx key found (Some top) (Some d) = after_resume_with s tx top d.block key found d.pending
after_resume s tx key found _ _ = s

-- the pending command is an access of this key
abbrev pub is_pending_access : Key → Option SessionState → Bool
is_pending_access key None = false
is_pending_access key (Some d) = is_that_key key (option_and_then access_key d.pending)

abbrev pub after_lock_ok_in : NodeState → TxId → Key → Found → TxEntry → TxState → NodeState
after_lock_ok_in s tx key found e state.Waiting = if is_pending_access key (session_state_of s tx.session)
    then after_resume (with_tx_state s tx state.Active) tx key found e.top (session_state_of s tx.session)
    else s
after_lock_ok_in s tx key found e _ = s

abbrev pub after_lock_ok_of : NodeState → TxId → Key → Found → Option TxEntry → NodeState
after_lock_ok_of s tx key found None = s
after_lock_ok_of s tx key found (Some e) = after_lock_ok_in s tx key found e e.state

-- LockOk, dropped where the transaction does not wait for a lock any more
abbrev pub after_lock_ok : NodeState → TxId → Key → Found → NodeState
after_lock_ok s tx key found = after_lock_ok_of s tx key found (entry_of s tx)

abbrev pub after_keep_near : NodeState → Key → Bool → Found → NodeState
after_keep_near s key true (Some (value, ver)) =
    with_near s key (near_put (near_size s key) (near_of s key) (record { key = key; value = value; ver = ver }))
after_keep_near s key _ _ = s

abbrev pub after_get_ok_for : NodeState → TxId → Key → Found → TxEntry → Getting → NodeState
after_get_ok_for s tx key found e getting = if same_key getting.key key
    then after_resume (after_keep_near (without_getting s tx) key getting.near found) tx key found e.top
    (session_state_of s tx.session)
    else s

abbrev pub after_get_ok_in : NodeState → TxId → Key → Found → TxEntry → Option Getting → NodeState
after_get_ok_in s tx key found e None = s
after_get_ok_in s tx key found e (Some getting) = after_get_ok_for s tx key found e getting

abbrev pub after_get_ok_of : NodeState → TxId → Key → Found → Option TxEntry → NodeState
after_get_ok_of s tx key found None = s
after_get_ok_of s tx key found (Some e) = after_get_ok_in s tx key found e e.getting

-- GetOk, dropped where it is not awaited any more
abbrev pub after_get_ok : NodeState → TxId → Key → Found → NodeState
after_get_ok s tx key found = after_get_ok_of s tx key found (entry_of s tx)

-- Prepared, PrepareFail, Finished, BackupFinished: the sender is no longer awaited in that phase.

abbrev pub without_awaited : NodeState → TxId → NodeId → NodeState
without_awaited s tx from =
    on_entry s tx (λ (e : TxEntry). record e { awaited = without_member node_cmp e.awaited from }) (entry_of s tx)

abbrev pub after_prepared_in : NodeState → NodeId → TxId → TxState → NodeState
after_prepared_in s from tx state.Preparing = without_awaited s tx from
after_prepared_in s from tx _ = s

abbrev pub tx_state_of : NodeState → TxId → TxState
tx_state_of s tx = unwrap_or (option_map (λ (e : TxEntry). e.state) (entry_of s tx)) state.Ended

abbrev pub after_prepared : NodeState → NodeId → TxId → NodeState
after_prepared s from tx = after_prepared_in s from tx (tx_state_of s tx)

abbrev pub after_prepare_fail_in : NodeState → TxId → Fail → TxState → NodeState
after_prepare_fail_in s tx why state.Preparing = after_fail s tx (fault.Check why)
after_prepare_fail_in s tx why _ = s

-- the first PrepareFail is the fault
abbrev pub after_prepare_fail : NodeState → TxId → Fail → NodeState
after_prepare_fail s tx why = after_prepare_fail_in s tx why (tx_state_of s tx)

abbrev pub after_finished_in : NodeState → NodeId → TxId → TxState → NodeState
after_finished_in s from tx state.Committing = without_awaited s tx from
after_finished_in s from tx state.RollingBack = without_awaited s tx from
after_finished_in s from tx _ = s

abbrev pub after_finished_at_starter : NodeState → NodeId → TxId → NodeState
after_finished_at_starter s from tx = after_finished_in s from tx (tx_state_of s tx)

abbrev pub after_backup_finished_at_starter : NodeState → NodeId → TxId → NodeId → NodeState
after_backup_finished_at_starter s from tx primary = on_entry s tx (λ (e : TxEntry). record e {
  backups = without_member share_cmp e.backups (record { holder = from; primary = primary });
}) (entry_of s tx)

-- NearUpdate: a near entry is brought up to date, and the primary is told
abbrev pub after_near_update : NodeState → NodeId → TxId → Key → Option (List ℕ) → CacheVersion → NodeState
after_near_update s from tx key new ver =
    with_out (with_near s key (near_updated (near_of s key) key new ver)) from (msg.NearDone tx key)
