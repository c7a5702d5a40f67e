-- What a journal says of its transactions: their footprints, the commits in the order of their decisions, and the one
-- serial history of a plain map.
use Rattle.std.specs.Cmp.Lexicographic.{pointwise}
use Rattle.std.specs.List.{flat_map}
use Rattle.std.specs.Prelude.{Bool, Err, None, Ok, Option, Result, Some, [], false, if◌then◌else◌, is_some, nat_eq, not, true, unwrap_or, ℕ, ℤ, ◌&&◌, ◌+◌, ◌==◌, ◌||◌, ◌∷◌}
use Rattle.act_rows.specs.Accesses.{access_key}
use Rattle.act_rows.specs.Steps.{no_top}
use Rattle.part_model.specs.Copies.{Found}
use Rattle.part_model.specs.Numbers.{sum_with_value}
use Rattle.part_model.specs.Orders.{is_node, next_count}
use Rattle.ignite_types.specs.Names.{key_cmp, same_tx, tx_cmp}
use Rattle.ignite_types.specs.declared.answer.Answer.{Answer}
use Rattle.ignite_types.specs.declared.journal.Event.{Event}
use Rattle.ignite_types.specs.declared.journal.Group.{Group}
use Rattle.ignite_types.specs.declared.journal.Journal.{Journal}
use Rattle.ignite_types.specs.declared.journal.Rec.{Rec}
use Rattle.ignite_types.specs.declared.list.List.{List}
use Rattle.ignite_types.specs.declared.message.Message.{Message}
use Rattle.ignite_types.specs.declared.names.CacheVersion.{CacheVersion}
use Rattle.ignite_types.specs.declared.names.NodeId.{NodeId}
use Rattle.ignite_types.specs.declared.names.TopVer.{TopVer}
use Rattle.ignite_types.specs.declared.names.TxId.{TxId}
use Rattle.ignite_types.specs.declared.scenario.Command.{Command}
use Rattle.ignite_types.specs.declared.text.Key.{Key}
use Rattle.ordered_set.specs.Members.{has, with_member}
use Rattle.ordered_table.specs.Entries.{at, put, without}
use Rattle.tx_model.specs.declared.history.BadRead.{BadRead}
use Rattle.tx_model.specs.declared.history.CommitEntry.{CommitEntry}
use Rattle.tx_model.specs.declared.walk.Walk.{Walk}
use Rattle.ignite_types.specs.declared.answer.Answer.TheVariants as answer
use Rattle.ignite_types.specs.declared.scenario.Command.TheVariants as command
use Rattle.ignite_types.specs.declared.journal.Event.TheVariants as event
use Rattle.ignite_types.specs.declared.message.Message.TheVariants as msg
use Rattle.ignite_types.specs.declared.journal.Rec.TheVariants as note

-- all records, in their order
abbrev pub records : List Group → List Rec
records groups = flat_map (λ (g : Group). g.recs) groups

-- The footprint of a transaction: a walk over the groups, which looks at its session's calls and answers, at what was found
-- for it, and at what its starter's near cache was told.

abbrev pub is_access : Command → Bool
is_access c = is_some (access_key c)

-- whether an access so answered was done
abbrev pub is_done : Answer → Bool
is_done answer.Done = true
is_done (answer.Found value) = true
is_done answer.Absent = true
is_done answer.NotNumber = true
is_done answer.Overflow = true
is_done _ = false

-- before the first record
abbrev pub fresh_walk : Walk
fresh_walk = record {
  top = None;
  started = 0;
  block = false;
  skipping = false;
  called = None;
  near_read = None;
  finds = [];
  near = [];
  overs = [];
  committed = false;
  reads = [];
  writes = [];
}

-- what the near cache knows of a command's key
abbrev pub near_read_at : Walk → Option Key → Found
near_read_at w None = None
near_read_at w (Some key) = unwrap_or (at key_cmp w.near key) None

abbrev pub with_near_read : Walk → Option Command → Walk
with_near_read w None = w
with_near_read w (Some c) = record w { near_read = near_read_at w (access_key c) }

-- an access of a started transaction is done in the act of its call
abbrev pub with_near_read_if_started : Walk → Option TopVer → Walk
with_near_read_if_started w None = w
with_near_read_if_started w (Some top) = with_near_read w w.called

-- an access outside a block is a transaction of its own, unless it is skipped
abbrev pub is_bare : Walk → Command → Bool
is_bare w c = is_access c && not w.block && not w.skipping

abbrev pub walk_after_call : Walk → Command → Walk
walk_after_call w c = if is_bare w c
    then record w { called = Some c; started = next_count w.started }
    else record w { called = Some c }

-- A find: what was found first at the primary, or else what the near cache knew.
abbrev pub find_or_near_read : Found → Option Found → Found
find_or_near_read near_read None = near_read
find_or_near_read near_read (Some found) = found

abbrev pub find_of : Walk → Key → Found
find_of w key = find_or_near_read w.near_read (at key_cmp w.finds key)

abbrev pub value_found : Found → Option (List ℕ)
value_found None = None
value_found (Some (value, ver)) = Some value

abbrev pub walk_with_first_find : Walk → Key → Found → Walk
walk_with_first_find w key found =
    record w { finds = put key_cmp w.finds key found; reads = put key_cmp w.reads key (value_found found) }

-- a first read of a key, before any write of it
abbrev pub walk_with_first_read : Walk → Key → Option (Option (List ℕ)) → Option (Option (List ℕ)) → Walk
walk_with_first_read w key None None = walk_with_first_find w key (find_of w key)
walk_with_first_read w key _ _ = w

abbrev pub walk_with_read : Walk → Key → Walk
walk_with_read w key = walk_with_first_read w key (at key_cmp w.reads key) (at key_cmp w.writes key)

abbrev pub written_before : Option (Option (List ℕ)) → Option (List ℕ) → Option (List ℕ)
written_before None found = found
written_before (Some new) found = new

-- the value before an access: the last own write of the key, or else its find
abbrev pub known_value : Walk → Key → Option (List ℕ)
known_value w key = written_before (at key_cmp w.writes key) (value_found (find_of w key))

abbrev pub walk_with_write : Walk → Key → Option (List ℕ) → Walk
walk_with_write w key new = record w { writes = put key_cmp w.writes key new }

abbrev pub walk_with_sum : Walk → Key → Result (List ℕ) Answer → Walk
walk_with_sum w key (Ok value) = walk_with_write w key (Some value)
walk_with_sum w key (Err a) = w

abbrev pub walk_with_add : Walk → Key → ℤ → Walk
walk_with_add w key amount = walk_with_sum w key (sum_with_value (known_value w key) amount)

-- an access is counted
abbrev pub walk_after_done_access : Walk → Command → Walk
walk_after_done_access w (command.Get key) = walk_with_read w key
walk_after_done_access w (command.Put key value) = walk_with_write w key (Some value)
walk_after_done_access w (command.Remove key) = walk_with_write w key None
walk_after_done_access w (command.Add key amount) = walk_with_add (walk_with_read w key) key amount
walk_after_done_access w _ = w

-- the call is answered; an access of this transaction that was done is counted
abbrev pub walk_after_counted_access : TxId → Walk → Command → Answer → Walk
walk_after_counted_access tx w c a = if (w.started == tx.number) && is_done a then walk_after_done_access w c else w

-- a told fault of a block lets its further accesses be skipped
abbrev pub walk_after_told_fault : Walk → Answer → Walk
walk_after_told_fault w (answer.Failed why) = record w { skipping = w.block || w.skipping; block = false }
walk_after_told_fault w _ = w

abbrev pub walk_after_answer_to : TxId → Walk → Command → Answer → Walk
walk_after_answer_to tx w (command.Begin mode timeout) answer.Done =
    record w { block = true; skipping = false; started = next_count w.started }
walk_after_answer_to tx w (command.Begin mode timeout) _ = w
walk_after_answer_to tx w command.Commit a = record w { block = false; skipping = false }
walk_after_answer_to tx w command.Rollback a = record w { block = false; skipping = false }
walk_after_answer_to tx w command.Close a = record w { block = false; skipping = false }
walk_after_answer_to tx w c a = walk_after_told_fault (walk_after_counted_access tx w c a) a

abbrev pub walk_without_call : Walk → Walk
walk_without_call w = record w { called = None; near_read = None }

abbrev pub walk_after_answer : TxId → Walk → Option Command → Answer → Walk
walk_after_answer tx w None a = w
walk_after_answer tx w (Some c) a = walk_without_call (walk_after_answer_to tx w c a)

-- the first find of a key counts, until the transaction is decided or has a fault
abbrev pub walk_with_find : Walk → Key → Option Found → Found → Walk
walk_with_find w key None found = record w { finds = put key_cmp w.finds key found }
walk_with_find w key (Some earlier) found = w

abbrev pub is_tx_closed : Walk → TxId → Bool
is_tx_closed w tx = has tx_cmp w.overs tx

abbrev pub walk_after_find : TxId → Walk → TxId → Key → Found → Walk
walk_after_find tx w u key found =
    if same_tx u tx && not (is_tx_closed w u) then walk_with_find w key (at key_cmp w.finds key) found else w

abbrev pub walk_with_near : Walk → Key → Found → Walk
walk_with_near w key found = record w { near = put key_cmp w.near key found }

-- a value for the near cache of the transaction's starter, until its own transaction is decided or has a fault
abbrev pub walk_after_near_get : TxId → Walk → Option NodeId → TxId → Key → Found → Walk
walk_after_near_get tx w to u key None = w
walk_after_near_get tx w to u key (Some found) =
    if is_node tx.node to && not (is_tx_closed w u) then walk_with_near w key (Some found) else w

abbrev pub found_after_update : Option (List ℕ) → CacheVersion → Found
found_after_update None ver = None
found_after_update (Some value) ver = Some (value, ver)

abbrev pub walk_after_near_update : TxId → Walk → Option NodeId → Key → Option (List ℕ) → CacheVersion → Walk
walk_after_near_update tx w to key new ver = if is_node tx.node to
    then walk_with_near w key (found_after_update new ver)
    else w

abbrev pub walk_after_delivery : TxId → Walk → Option NodeId → Message → Walk
walk_after_delivery tx w to (msg.LockOk u key found) = walk_after_find tx w u key found
walk_after_delivery tx w to (msg.GetOk u key found) = walk_after_near_get tx (walk_after_find tx w u key found) to u key found
walk_after_delivery tx w to (msg.NearUpdate u key new ver) = walk_after_near_update tx w to key new ver
walk_after_delivery tx w to _ = w

abbrev pub is_called : TxId → ℕ → Bool
is_called tx session = session == tx.session

abbrev pub walk_with_closed : Walk → TxId → Walk
walk_with_closed w u = record w { overs = with_member tx_cmp w.overs u }

abbrev pub walk_after_decide : TxId → Walk → TxId → Bool → Walk
walk_after_decide tx w u commit =
    if same_tx u tx then walk_with_closed (record w { committed = w.committed || commit }) u else walk_with_closed w u

-- one record of the walk for this transaction; `to` is the node that takes a message in this group
abbrev pub walk_after_record : TxId → Option NodeId → Walk → Rec → Walk
walk_after_record tx to w (note.Call session c) =
    if is_called tx session then with_near_read_if_started (walk_after_call w c) w.top else w
walk_after_record tx to w (note.Answer session a) = if is_called tx session then walk_after_answer tx w w.called a else w
walk_after_record tx to w (note.Deliver from m) = walk_after_delivery tx w to m
walk_after_record tx to w (note.Start u top) =
    if same_tx u tx then with_near_read (record w { top = Some top }) w.called else w
walk_after_record tx to w (note.Decide u commit) = walk_after_decide tx w u commit
walk_after_record tx to w (note.Fault u why) = walk_with_closed w u
walk_after_record tx to w _ = w

abbrev pub taker_of : Event → Option NodeId
taker_of (event.Act id from) = Some id
taker_of _ = None

abbrev pub walk_after_records : TxId → Option NodeId → Walk → List Rec → Walk
walk_after_records tx to w [] = w
walk_after_records tx to w (r ∷ rs) = walk_after_records tx to (walk_after_record tx to w r) rs

abbrev pub walk_after_groups : TxId → Walk → List Group → Walk
walk_after_groups tx w [] = w
walk_after_groups tx w (g ∷ gs) = walk_after_groups tx (walk_after_records tx (taker_of g.event) w g.recs) gs

-- where the transaction is committed its unanswered call counts too
abbrev pub walk_with_open_call : TxId → Walk → Option Command → Walk
walk_with_open_call tx w None = w
walk_with_open_call tx w (Some c) = if w.committed && (w.started == tx.number) then walk_after_done_access w c else w

abbrev pub entry_from : TxId → Walk → CommitEntry
entry_from tx w = record { tx = tx; top = unwrap_or w.top no_top; reads = w.reads; writes = w.writes }

-- what the transaction read and wrote, by the whole journal
abbrev pub footprint : List Group → TxId → CommitEntry
footprint all tx = let w = walk_after_groups tx fresh_walk all in entry_from tx (walk_with_open_call tx w w.called)

-- The commits: the first commit decision of each transaction, in order.

-- the transaction that the record says is committed
abbrev pub committed_in : Rec → Option TxId
committed_in (note.Decide tx commit) = if commit then Some tx else None
committed_in _ = None

-- the commits from a record on, where it says this is committed; the last argument gives those of the later records
abbrev pub commits_next : List Group → List TxId → Option TxId → (List TxId → List CommitEntry) → List CommitEntry
commits_next all seen None rest = rest seen
commits_next all seen (Some tx) rest = if has tx_cmp seen tx
    then rest seen
    else footprint all tx ∷ rest (with_member tx_cmp seen tx)

abbrev pub commits_from : List Group → List TxId → List Rec → List CommitEntry
commits_from all seen [] = []
commits_from all seen (r ∷ rs) = commits_next all seen (committed_in r) (λ now_seen. commits_from all now_seen rs)

abbrev pub commits : List Group → List CommitEntry
commits groups = commits_from groups [] (records groups)

abbrev pub commits_of : Journal → List CommitEntry
commits_of j = commits j.groups

-- The serial history.

abbrev pub same_value : Option (List ℕ) → Option (List ℕ) → Bool
same_value None None = true
same_value (Some v) (Some w) = pointwise nat_eq v w
same_value _ _ = false

abbrev pub Map : Type 0
Map = List (Key × List ℕ)

-- the first read that is not the map's value
abbrev pub bad_read : Map → List (Key × Option (List ℕ)) → Option Key
bad_read m [] = None
bad_read m (r ∷ rs) = if same_value (at key_cmp m r.0) r.1 then bad_read m rs else Some r.0

abbrev pub map_with_write : Map → Key → Option (List ℕ) → Map
map_with_write m key None = without key_cmp m key
map_with_write m key (Some value) = put key_cmp m key value

abbrev pub map_with_writes : Map → List (Key × Option (List ℕ)) → Map
map_with_writes m [] = m
map_with_writes m (w ∷ ws) = map_with_writes (map_with_write m w.0 w.1) ws

abbrev pub unless_bad_read : Option Key → ℕ → Result Map BadRead → Result Map BadRead
unless_bad_read None place rest = rest
unless_bad_read (Some key) place rest = Err (record { place = place; key = key })

-- the map after the entries, the first of which stands at this place, or the first bad read
abbrev pub serial_from : ℕ → Map → List CommitEntry → Result Map BadRead
serial_from place m [] = Ok m
serial_from place m (e ∷ es) =
    unless_bad_read (bad_read m e.reads) place (serial_from (place + 1) (map_with_writes m e.writes) es)

-- the map after the entries, from the empty map
abbrev pub serial : List CommitEntry → Result Map BadRead
serial entries = serial_from 0 [] entries

-- the map that the entries' writes leave, whatever they read
abbrev pub map_after_commits : Map → List CommitEntry → Map
map_after_commits m [] = m
map_after_commits m (e ∷ es) = map_after_commits (map_with_writes m e.writes) es
