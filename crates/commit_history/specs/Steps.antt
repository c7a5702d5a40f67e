-- One walk for all transactions: what is kept of each session, of each transaction, of each node's near cache, and which
-- transactions are over; and what a record does to it.
use Rattle.std.specs.Ordering.{nat_cmp}
use Rattle.std.specs.Prelude.{Bool, None, Option, Some, [], false, if◌then◌else◌, is_some, true, unwrap_or, ℕ, ◌∷◌}
use Rattle.act_rows.specs.Accesses.{access_key}
use Rattle.part_model.specs.Copies.{Found}
use Rattle.commit_history.specs.Lines.{line_after, line_after_call, new_line, tx_of_line, walk_at_line}
use Rattle.commit_history.specs.declared.line.Line.{Line}
use Rattle.commit_history.specs.declared.walks.Walks.{Walks}
use Rattle.ignite_types.specs.Names.{key_cmp, node_cmp, same_node, same_tx, tx_cmp}
use Rattle.ignite_types.specs.declared.answer.Answer.{Answer}
use Rattle.ignite_types.specs.declared.journal.Group.{Group}
use Rattle.ignite_types.specs.declared.journal.Rec.{Rec}
use Rattle.ignite_types.specs.declared.list.List.{List}
use Rattle.ignite_types.specs.declared.message.Message.{Message}
use Rattle.ignite_types.specs.declared.names.NodeId.{NodeId}
use Rattle.ignite_types.specs.declared.names.TopVer.{TopVer}
use Rattle.ignite_types.specs.declared.names.TxId.{TxId}
use Rattle.ignite_types.specs.declared.scenario.Command.{Command}
use Rattle.ignite_types.specs.declared.scenario.Session.{Session}
use Rattle.ignite_types.specs.declared.text.Key.{Key}
use Rattle.ordered_table.specs.Entries.{at, put}
use Rattle.tx_model.specs.Opening.{session_nodes_from}
use Rattle.tx_model.specs.History.{entry_from, footprint, found_after_update, fresh_walk, taker_of, walk_after_answer, walk_with_find, walk_with_open_call}
use Rattle.tx_model.specs.declared.walk.Walk.{Walk}
use Rattle.tx_model.specs.declared.history.CommitEntry.{CommitEntry}
use Rattle.ignite_types.specs.declared.journal.Rec.TheVariants as note
use Rattle.ignite_types.specs.declared.message.Message.TheVariants as msg

-- Look-ups.

abbrev pub line_or : Option NodeId → Option Line → Option Line
line_or home (Some l) = Some l
line_or None None = None
line_or (Some home) None = Some (new_line home)

-- how a session stands; nothing for a number that no session has
abbrev pub session_line_of : Walks → ℕ → Option Line
session_line_of m session = line_or (at nat_cmp m.nodes session) (at nat_cmp m.lines session)

-- what is kept of a transaction; the session's part of it is stale
abbrev pub walk_of : Walks → TxId → Walk
walk_of m tx = unwrap_or (at tx_cmp m.walks tx) fresh_walk

-- what the near cache of a node was last told of each key
abbrev pub near_told_of : Walks → NodeId → List (Key × Found)
near_told_of m node = unwrap_or (at node_cmp m.near node) []

abbrev pub near_told_at : Walks → NodeId → Option Key → Found
near_told_at m node None = None
near_told_at m node (Some key) = unwrap_or (at key_cmp (near_told_of m node) key) None

-- what the near cache of a node knows of a command's key
abbrev pub near_read_of : Walks → NodeId → Command → Found
near_read_of m node c = near_told_at m node (access_key c)

abbrev pub is_closed_in : Walks → TxId → Bool
is_closed_in m tx = is_some (at tx_cmp m.overs tx)

-- Changes.

abbrev pub with_walk : Walks → TxId → Walk → Walks
with_walk m tx w = record m { walks = put tx_cmp m.walks tx w }

abbrev pub with_line : Walks → ℕ → Line → Walks
with_line m session l = record m { lines = put nat_cmp m.lines session l }

abbrev pub walks_with_near_read : Walks → TxId → Command → Walks
walks_with_near_read m tx c = with_walk m tx (record (walk_of m tx) { near_read = near_read_of m tx.node c })

-- an access of a started transaction looks at the near cache
abbrev pub walks_with_near_read_if : Walks → TxId → Command → Bool → Walks
walks_with_near_read_if m tx c false = m
walks_with_near_read_if m tx c true = walks_with_near_read m tx c

abbrev pub walks_after_call_by : Walks → ℕ → Command → Line → Walks
walks_after_call_by m session c after =
    let tx = tx_of_line after session in
    walks_with_near_read_if (with_line m session after) tx c (is_some (walk_of m tx).top)

abbrev pub walks_after_call : Walks → ℕ → Command → Option Line → Walks
walks_after_call m session c None = m
walks_after_call m session c (Some l) = walks_after_call_by m session c (line_after_call l c)

abbrev pub walks_after_answer_by : Walks → ℕ → Answer → Line → Option Command → Walks
walks_after_answer_by m session a l None = m
walks_after_answer_by m session a l (Some c) =
    let tx = tx_of_line l session in
    let w = walk_after_answer tx (walk_at_line l (walk_of m tx)) (Some c) a in
    with_line (with_walk m tx w) session (line_after l w)

abbrev pub walks_after_answer : Walks → ℕ → Answer → Option Line → Walks
walks_after_answer m session a None = m
walks_after_answer m session a (Some l) = walks_after_answer_by m session a l l.called

-- the command that the transaction is about, where it is its session's last one
abbrev pub open_call_of : TxId → Option Line → Option Command
open_call_of tx None = None
open_call_of tx (Some l) = if same_tx (tx_of_line l tx.session) tx then l.called else None

abbrev pub walk_with_start_read : Walks → TxId → Walk → Option Command → Walk
walk_with_start_read m tx w None = w
walk_with_start_read m tx w (Some c) = record w { near_read = near_read_of m tx.node c }

abbrev pub walks_after_start : Walks → TxId → TopVer → Walks
walks_after_start m tx top =
    with_walk m tx (walk_with_start_read m tx (record (walk_of m tx) { top = Some top })
    (open_call_of tx (session_line_of m tx.session)))

abbrev pub walks_after_find : Walks → TxId → Key → Found → Walks
walks_after_find m tx key f = if is_closed_in m tx then m
    else with_walk m tx (walk_with_find (walk_of m tx) key (at key_cmp (walk_of m tx).finds key) f)

abbrev pub walks_after_near_update : Walks → Option NodeId → Key → Found → Walks
walks_after_near_update m None key f = m
walks_after_near_update m (Some node) key f =
    record m { near = put node_cmp m.near node (put key_cmp (near_told_of m node) key f) }

abbrev pub walks_after_near_get : Walks → Option NodeId → TxId → Key → Found → Walks
walks_after_near_get m to u key None = m
walks_after_near_get m to u key (Some f) = if is_closed_in m u then m else walks_after_near_update m to key (Some f)

abbrev pub walks_after_delivery : Walks → Option NodeId → Message → Walks
walks_after_delivery m to (msg.LockOk u key f) = walks_after_find m u key f
walks_after_delivery m to (msg.GetOk u key f) = walks_after_near_get (walks_after_find m u key f) to u key f
walks_after_delivery m to (msg.NearUpdate u key new ver) = walks_after_near_update m to key (found_after_update new ver)
walks_after_delivery m to _ = m

abbrev pub walks_with_closed : Walks → TxId → Walks
walks_with_closed m tx = record m { overs = put tx_cmp m.overs tx tt }

abbrev pub walks_with_commit : Walks → TxId → Walks
walks_with_commit m tx = with_walk m tx (record (walk_of m tx) { committed = true })

abbrev pub walks_after_decide : Walks → TxId → Bool → Walks
walks_after_decide m tx false = walks_with_closed m tx
walks_after_decide m tx true = walks_with_closed (walks_with_commit m tx) tx

-- one record; `to` is the node that takes a message in its group
abbrev pub walks_after_record : Walks → Option NodeId → Rec → Walks
walks_after_record m to (note.Call session c) = walks_after_call m session c (session_line_of m session)
walks_after_record m to (note.Answer session a) = walks_after_answer m session a (session_line_of m session)
walks_after_record m to (note.Deliver from m2) = walks_after_delivery m to m2
walks_after_record m to (note.Start tx top) = walks_after_start m tx top
walks_after_record m to (note.Decide tx commit) = walks_after_decide m tx commit
walks_after_record m to (note.Fault tx why) = walks_with_closed m tx
walks_after_record m to _ = m

abbrev pub walks_after_records : Walks → Option NodeId → List Rec → Walks
walks_after_records m to [] = m
walks_after_records m to (r ∷ rs) = walks_after_records (walks_after_record m to r) to rs

abbrev pub walks_after_groups : Walks → List Group → Walks
walks_after_groups m [] = m
walks_after_groups m (g ∷ gs) = walks_after_groups (walks_after_records m (taker_of g.event) g.recs) gs

-- before the first record
abbrev pub opening_walks : List Session → Walks
opening_walks sessions = record { nodes = session_nodes_from 1 [] sessions; lines = []; near = []; overs = []; walks = [] }

-- What a transaction read and wrote: from the one walk where it is of its session's node, as each one in a run is.

abbrev pub entry_of_line : Walks → TxId → Line → CommitEntry
entry_of_line m tx l = let w = walk_at_line l (walk_of m tx) in entry_from tx (walk_with_open_call tx w w.called)

abbrev pub entry_of_line_if : Walks → List Group → TxId → Option Line → CommitEntry
entry_of_line_if m all tx None = footprint all tx
entry_of_line_if m all tx (Some l) = entry_of_line m tx l

abbrev pub entry_of_home : Walks → List Group → TxId → Option NodeId → CommitEntry
entry_of_home m all tx None = footprint all tx
entry_of_home m all tx (Some home) =
    if same_node home tx.node then entry_of_line_if m all tx (session_line_of m tx.session) else footprint all tx

abbrev pub entry_of_walks : List (ℕ × NodeId) → Walks → List Group → TxId → CommitEntry
entry_of_walks nodes m all tx = entry_of_home m all tx (at nat_cmp nodes tx.session)
