-- What holds up a run that stalls, how long a plain run may be, and that the versions that a node draws grow.
use Rattle.std.specs.List.{flat_map, list_all, list_any}
use Rattle.std.specs.Prelude.{Bool, [], false, if◌then◌else◌, is_none, is_some, length, max, nat_eq, nat_le, not, true, ℕ, ◌&&◌, ◌*◌, ◌+◌, ◌||◌, ◌∷◌}
use Rattle.part_model.specs.Orders.{is_lower, is_lower_top}
use Rattle.ignite_types.specs.Names.{same_node, same_tx}
use Rattle.ignite_types.specs.declared.journal.End.{End}
use Rattle.ignite_types.specs.declared.journal.Journal.{Journal}
use Rattle.ignite_types.specs.declared.journal.Rec.{Rec}
use Rattle.ignite_types.specs.declared.list.List.{List}
use Rattle.ignite_types.specs.declared.names.CacheVersion.{CacheVersion}
use Rattle.ignite_types.specs.declared.names.NodeId.{NodeId}
use Rattle.ignite_types.specs.declared.names.TopVer.{TopVer}
use Rattle.ignite_types.specs.declared.names.TxId.{TxId}
use Rattle.ignite_types.specs.declared.scenario.Cache.{Cache}
use Rattle.ignite_types.specs.declared.scenario.Item.{Item}
use Rattle.ignite_types.specs.declared.scenario.Scenario.{Scenario}
use Rattle.ignite_types.specs.declared.scenario.Session.{Session}
use Rattle.ignite_types.specs.declared.message.Wait.{Wait}
use Rattle.tx_model.specs.declared.walk.Walk.{Walk}
use Rattle.tx_model.specs.declared.outlook.Standing.{Standing}
use Rattle.tx_model.specs.Outlooks.{outlook_of}
use Rattle.tx_model.specs.Opening.{declared_nodes, ids_of, session_nodes_from}
use Rattle.journal_statements.specs.LinkRecords.{any_link_keeps}
use Rattle.journal_statements.specs.Noted.{Noted, is_lost, noted, recs_of}
use Rattle.journal_statements.specs.SearchLaws.{waits_standing}
use Rattle.journal_statements.specs.Topologies.{first_topology, last_topology, seen_events, topology_events}
use Rattle.journal_statements.specs.Versions.{is_decided, started_txs}
use Rattle.journal_statements.specs.Walks.{walk_of_records}
use Rattle.ignite_types.specs.declared.journal.End.TheVariants as end
use Rattle.ignite_types.specs.declared.message.Message.TheVariants as msg
use Rattle.ignite_types.specs.declared.journal.Rec.TheVariants as note
use Rattle.ignite_types.specs.declared.scenario.Command.TheVariants as command
use Rattle.ignite_types.specs.declared.scenario.Item.TheVariants as item
use Rattle.tx_model.specs.declared.outlook.Standing.TheVariants as standing

-- Stalled runs.

-- the session's walk; number 0 stands for none of its transactions
abbrev pub session_walk : ℕ × NodeId → List Noted → Walk
session_walk home recs = walk_of_records (record { node = home.1; session = home.0; number = 0 }) recs

-- the session's last transaction
abbrev pub last_tx : ℕ × NodeId → List Noted → TxId
last_tx home recs = record { node = home.1; session = home.0; number = (session_walk home recs).started }

abbrev pub is_wait_of : TxId → Wait → Bool
is_wait_of tx w = same_tx w.waiter tx

-- the version that the node has seen last
abbrev pub version_seen : Journal → List Noted → NodeId → TopVer
version_seen j recs id = (last_topology (first_topology j.scenario)
    (seen_events (topology_events j.scenario j.groups) (recs_of id recs))).top

-- a transaction of an older version was started, and has not ended at its starter, which is live
abbrev pub holds_version_up : List Noted → TopVer → TxId × TopVer → Bool
holds_version_up recs top t = is_lower_top t.1 top && not (is_decided recs t.0) && not (is_lost recs t.0.node)

-- the transaction has no version yet, and an older one holds the version up for which it waits
abbrev pub waits_for_version : Journal → List Noted → TxId → Bool
waits_for_version j recs tx = is_none (walk_of_records tx recs).top
    && list_any (holds_version_up recs (version_seen j recs tx.node)) (started_txs recs)

-- an answer is still to come
abbrev pub is_waiting_session : List Noted → ℕ × NodeId → Bool
is_waiting_session recs home = is_some (session_walk home recs).called && not (is_lost recs home.1)

abbrev pub has_reason : Journal → List Noted → ℕ × NodeId → Bool
has_reason j recs home = let tx = last_tx home recs in
    list_any (is_wait_of tx) (waits_standing recs) || waits_for_version j recs tx || any_link_keeps j.scenario recs

abbrev pub is_stalled_end : End → Bool
is_stalled_end end.Stalled = true
is_stalled_end e = false

-- at a stalled end each session that waits for an answer waits for a lock, for a version or for a held link
abbrev pub stalls_explained : Journal → Bool
stalls_explained j = let recs = noted j.scenario j.groups in not (is_stalled_end j.end)
    || list_all (λ (home : ℕ × NodeId). not (is_waiting_session recs home) || has_reason j recs home)
    (session_nodes_from 1 [] j.scenario.sessions)

-- what is told of a session names what it waits for
abbrev pub names_reason : Standing → Bool
names_reason standing.Busy = false
names_reason s = true

-- so each line that is told of a session at a stalled end names it
abbrev pub stalls_named : Journal → Bool
stalls_named j = not (is_stalled_end j.end) || list_all names_reason (outlook_of j).standings

-- The number of events.

-- a plain command that begins no transaction with a timeout
abbrev pub is_plain_item : Item → Bool
is_plain_item (item.Plain (command.Begin mode timeout)) = nat_eq timeout 0
is_plain_item (item.Plain c) = true
is_plain_item i = false

abbrev pub all_items : Scenario → List Item
all_items scenario = flat_map (λ (s : Session). s.commands) scenario.sessions

abbrev pub most_backups : ℕ → List Cache → ℕ
most_backups best [] = best
most_backups best (c ∷ cs) = most_backups (max best c.backups) cs

abbrev pub event_bound : Scenario → ℕ
event_bound scenario =
    length (all_items scenario) * (15 + 8 * most_backups 0 scenario.caches + 4 * length (declared_nodes scenario))
    + 2 * length scenario.sessions

-- a run with no plan step, no timeout and no data command has no more events than that
abbrev pub events_bounded : Journal → Bool
events_bounded j = not (nat_eq (length j.scenario.plan) 0) || not (list_all is_plain_item (all_items j.scenario))
    || nat_le (length j.groups) (event_bound j.scenario)

-- Drawn versions.

abbrev pub prepared_in : Rec → List TxId
prepared_in (note.Deliver from (msg.Prepare tx top mode shares wanted writes)) = tx ∷ []
prepared_in r = []

abbrev pub version_applied : TxId → NodeId → Rec → List CacheVersion
version_applied tx id (note.Apply u top primary key new ver) = if same_tx u tx && same_node ver.node id then ver ∷ [] else []
version_applied tx id r = []

-- the versions that a node drew of which it has applied the writes, in the order of its prepares
abbrev pub versions_drawn : NodeId → List Rec → List CacheVersion
versions_drawn id own = flat_map (λ (tx : TxId). flat_map (version_applied tx id) own) (flat_map prepared_in own)

abbrev pub all_grow : List CacheVersion → Bool
all_grow [] = true
all_grow (v ∷ []) = true
all_grow (v ∷ w ∷ vs) = is_lower v w && all_grow (w ∷ vs)

-- the versions that one node draws grow, those under a later map above all earlier ones
abbrev pub versions_grow : Journal → Bool
versions_grow j = let recs = noted j.scenario j.groups in
    list_all (λ (id : NodeId). all_grow (versions_drawn id (recs_of id recs))) (ids_of j.scenario)

abbrev pub run_end_laws : Journal → Bool
run_end_laws j = stalls_explained j && stalls_named j && events_bounded j && versions_grow j
