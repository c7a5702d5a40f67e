-- The small steps that rows are made of: look one thing up in a node's state, or change one.
use Rattle.std.specs.Option.{option_and_then, option_map}
use Rattle.std.specs.Ordering.{nat_cmp, ordering_then}
use Rattle.std.specs.Prelude.{Bool, None, Option, Some, [], false, filter, is_some, map, not, slice_get, unwrap_or, ℕ, ◌&&◌, ◌++◌, ◌||◌, ◌∷◌}
use Rattle.std.specs.declared.cmp.Ordering.{Ordering}
use Rattle.part_model.specs.Directory.{oldest_member}
use Rattle.part_model.specs.Links.{oldest_in}
use Rattle.part_model.specs.NearEntries.{NearCache}
use Rattle.part_model.specs.NextMap.{has_node}
use Rattle.part_model.specs.Orders.{is_node}
use Rattle.ignite_types.specs.Names.{node_cmp, same_node, same_top, tx_cmp}
use Rattle.ignite_types.specs.Placement.{part_of, primary_of}
use Rattle.ignite_types.specs.declared.answer.Answer.{Answer}
use Rattle.ignite_types.specs.declared.journal.Rec.{Rec}
use Rattle.ignite_types.specs.declared.list.List.{List}
use Rattle.ignite_types.specs.declared.message.Message.{Message}
use Rattle.ignite_types.specs.declared.message.Out.{Out}
use Rattle.ignite_types.specs.declared.names.NodeId.{NodeId}
use Rattle.ignite_types.specs.declared.names.TopVer.{TopVer}
use Rattle.ignite_types.specs.declared.names.TxId.{TxId}
use Rattle.ignite_types.specs.declared.placement.PartMap.{PartMap}
use Rattle.ignite_types.specs.declared.placement.Row.{Row}
use Rattle.ignite_types.specs.declared.placement.Share.{Share}
use Rattle.ignite_types.specs.declared.scenario.Cache.{Cache}
use Rattle.ignite_types.specs.declared.text.Key.{Key}
use Rattle.node_state.specs.declared.near.TxEntry.{TxEntry}
use Rattle.node_state.specs.Node.{NodeState}
use Rattle.node_state.specs.declared.primary.BackupName.{BackupName}
use Rattle.node_state.specs.declared.primary.BackupShare.{BackupShare}
use Rattle.node_state.specs.declared.primary.OwnShare.{OwnShare}
use Rattle.node_state.specs.declared.session.SessionState.{SessionState}
use Rattle.ordered_set.specs.Members.{has}
use Rattle.ordered_table.specs.Entries.{at, put}

-- Looking up.

abbrev pub session_state_of : NodeState → ℕ → Option SessionState
session_state_of s session = at nat_cmp s.session_states session

abbrev pub entry_of : NodeState → TxId → Option TxEntry
entry_of s tx = at tx_cmp s.txs tx

abbrev pub share_of : NodeState → TxId → Option OwnShare
share_of s tx = at tx_cmp s.shares tx

abbrev pub backup_cmp : BackupName → BackupName → Ordering
backup_cmp a b = ordering_then (tx_cmp a.tx b.tx) (node_cmp a.primary b.primary)

abbrev pub backup_name : TxId → NodeId → BackupName
backup_name tx primary = record { tx = tx; primary = primary }

abbrev pub backup_of : NodeState → TxId → NodeId → Option BackupShare
backup_of s tx primary = at backup_cmp s.backups (backup_name tx primary)

-- the version of the installed map; 0.0 where none is installed
abbrev pub no_top : TopVer
no_top = record { major = 0; minor = 0 }

abbrev pub installed_top : NodeState → TopVer
installed_top s = unwrap_or (option_map (λ (m : PartMap). m.top) s.installed) no_top

abbrev pub is_installed : NodeState → TopVer → Bool
is_installed s top = is_some s.installed && same_top (installed_top s) top

abbrev pub is_open : NodeState → Option TopVer → Bool
is_open s None = false
is_open s (Some top) = same_top top s.seen

-- the rows of the installed map
abbrev pub rows_of : NodeState → List Row
rows_of s = unwrap_or (option_map (λ (m : PartMap). m.rows) s.installed) []

-- the partition of a key by the installed map; 0 where none is installed
abbrev pub partition_of : NodeState → Key → ℕ
partition_of s key = unwrap_or (option_map (λ (m : PartMap). part_of m.parts key) s.installed) 0

-- the key's primary by the installed map, where its cache runs there
abbrev pub primary_at : NodeState → Key → Option NodeId
primary_at s key = option_and_then (λ (m : PartMap). primary_of m key) s.installed

abbrev pub is_holder_in : NodeId → Option Row → Bool
is_holder_in node None = false
is_holder_in node (Some row) = has_node row.owners node || has_node row.movers node

abbrev pub is_owner_in : NodeId → Option Row → Bool
is_owner_in node None = false
is_owner_in node (Some row) = has_node row.owners node

abbrev pub is_mover_in : NodeId → Option Row → Bool
is_mover_in node None = false
is_mover_in node (Some row) = has_node row.movers node

-- whether a node has a copy of the key's partition by the installed map
abbrev pub is_holder : NodeState → NodeId → Key → Bool
is_holder s node key = is_holder_in node (slice_get (rows_of s) (partition_of s key))

-- whether this node's copy of a partition is being filled
abbrev pub is_filling : NodeState → ℕ → Bool
is_filling s part = is_mover_in s.me (slice_get (rows_of s) part)

-- A node is live for another one until that one has seen it leave.
abbrev pub is_live : NodeState → NodeId → Bool
is_live s node = not (has node_cmp s.left node)

abbrev pub live_among : NodeState → List NodeId → List NodeId
live_among s nodes = filter (is_live s) nodes

abbrev pub lost_among : NodeState → List NodeId → List NodeId
lost_among s nodes = filter (λ (n : NodeId). not (is_live s n)) nodes

-- the oldest member of the last version seen
abbrev pub oldest_seen : NodeState → Option NodeId
oldest_seen s = oldest_member s.members

abbrev pub is_oldest : NodeState → Bool
is_oldest s = is_node s.me (oldest_seen s)

-- the holders of a primary's shares, ascending, as the shares are
abbrev pub holders_for : List Share → NodeId → List NodeId
holders_for shares primary = map (λ (h : Share). h.holder) (filter (λ (h : Share). same_node h.primary primary) shares)

abbrev pub live_holders : NodeState → List Share → NodeId → List NodeId
live_holders s shares primary = live_among s (holders_for shares primary)

-- the near size of a key's cache; 0 where it has no near cache
abbrev pub near_size : NodeState → Key → ℕ
near_size s key = unwrap_or (option_map (λ (c : Cache). c.near) (slice_get s.caches key.cache)) 0

abbrev pub near_of : NodeState → Key → NearCache
near_of s key = unwrap_or (at nat_cmp s.near key.cache) []

-- Changing.

-- puts a message into the outbox
abbrev pub with_out : NodeState → NodeId → Message → NodeState
with_out s to m = record s { outbox = s.outbox ++ record { to = to; msg = m } ∷ [] }

-- puts messages into the outbox
abbrev pub with_outs : NodeState → List Out → NodeState
with_outs s outs = record s { outbox = s.outbox ++ outs }

-- one message to each of these nodes
abbrev pub outs_to : List NodeId → Message → List Out
outs_to nodes m = map (λ (n : NodeId). record { to = n; msg = m }) nodes

abbrev pub with_out_to_oldest : NodeState → Message → Option NodeId → NodeState
with_out_to_oldest s m None = s
with_out_to_oldest s m (Some oldest_in) = with_out s oldest_in m

-- notes a record
abbrev pub with_note : NodeState → Rec → NodeState
with_note s rec = record s { noted = s.noted ++ rec ∷ [] }

abbrev pub with_session_state : NodeState → ℕ → SessionState → NodeState
with_session_state s session session_state = record s { session_states = put nat_cmp s.session_states session session_state }

-- changes a session's state, where there is one
abbrev pub on_session_state : NodeState → ℕ → (SessionState → SessionState) → Option SessionState → NodeState
on_session_state s session f None = s
on_session_state s session f (Some session_state) = with_session_state s session (f session_state)

abbrev pub with_entry : NodeState → TxId → TxEntry → NodeState
with_entry s tx entry = record s { txs = put tx_cmp s.txs tx entry }

-- changes a transaction's entry, where there is one
abbrev pub on_entry : NodeState → TxId → (TxEntry → TxEntry) → Option TxEntry → NodeState
on_entry s tx f None = s
on_entry s tx f (Some entry) = with_entry s tx (f entry)

abbrev pub with_share : NodeState → TxId → OwnShare → NodeState
with_share s tx share = record s { shares = put tx_cmp s.shares tx share }

-- changes an own share, where there is one
abbrev pub on_share : NodeState → TxId → (OwnShare → OwnShare) → Option OwnShare → NodeState
on_share s tx f None = s
on_share s tx f (Some share) = with_share s tx (f share)

abbrev pub with_backup : NodeState → TxId → NodeId → BackupShare → NodeState
with_backup s tx primary share = record s { backups = put backup_cmp s.backups (backup_name tx primary) share }

abbrev pub with_near : NodeState → Key → NearCache → NodeState
with_near s key near = record s { near = put nat_cmp s.near key.cache near }

-- makes the answer of a session's pending command ready
abbrev pub with_answer_ready : NodeState → ℕ → Answer → NodeState
with_answer_ready s session a =
    on_session_state s session (λ (d : SessionState). record d { ready = Some a }) (session_state_of s session)
