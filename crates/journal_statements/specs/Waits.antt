-- Waits that stand, and deadlock reports.
use Rattle.std.specs.List.{list_all, list_any}
use Rattle.std.specs.Prelude.{Bool, Option, Some, [], false, filter, if◌then◌else◌, map, nat_eq, not, slice_get, take, true, ℕ, ◌&&◌, ◌++◌, ◌||◌, ◌∷◌}
use Rattle.part_model.specs.Cycles.{same_wait}
use Rattle.part_model.specs.Orders.{is_node}
use Rattle.ignite_types.specs.Names.{same_key, same_node, same_tx}
use Rattle.ignite_types.specs.declared.journal.Group.{Group}
use Rattle.ignite_types.specs.declared.journal.Journal.{Journal}
use Rattle.ignite_types.specs.declared.journal.Rec.{Rec}
use Rattle.ignite_types.specs.declared.list.List.{List}
use Rattle.ignite_types.specs.declared.message.Edge.{Edge}
use Rattle.ignite_types.specs.declared.message.Wait.{Wait}
use Rattle.ignite_types.specs.declared.names.NodeId.{NodeId}
use Rattle.ignite_types.specs.declared.names.TxId.{TxId}
use Rattle.ignite_types.specs.declared.scenario.PlanStep.{PlanStep}
use Rattle.ignite_types.specs.declared.scenario.Scenario.{Scenario}
use Rattle.ignite_types.specs.declared.text.Key.{Key}
use Rattle.tx_model.specs.History.{records}
use Rattle.journal_statements.specs.Noted.{Homes, Noted, actor, each_record, is_lost, joiner_in, noted, recs_of}
use Rattle.tx_model.specs.Opening.{session_nodes_from}
use Rattle.ignite_types.specs.declared.message.Message.TheVariants as msg
use Rattle.ignite_types.specs.declared.journal.Rec.TheVariants as note

abbrev pub is_join_of : NodeId → Option PlanStep → Bool
is_join_of node planned = is_node node (joiner_in planned)

abbrev pub is_join_group : NodeId → List PlanStep → List Rec → Bool
is_join_group node plan (note.Planned place refused ∷ rs) = is_join_of node (slice_get plan place)
is_join_group node plan recs = false

abbrev pub is_act_of : NodeId → Homes → List PlanStep → Group → Bool
is_act_of node session_nodes plan g = is_node node (actor session_nodes g.event) || is_join_group node plan g.recs

-- the groups of a node's acts, in their order
abbrev pub acts_of : NodeId → Homes → List PlanStep → List Group → List Group
acts_of node session_nodes plan groups = filter (λ (g : Group). is_act_of node session_nodes plan g) groups

-- what a node noted up to its act with this number, from 1
abbrev pub acts_up_to : NodeId → ℕ → Scenario → List Group → List Rec
acts_up_to node act scenario groups =
    records (take act (acts_of node (session_nodes_from 1 [] scenario.sessions) scenario.plan groups))

-- whether the transaction holds the key after these records of one node
abbrev pub holds_after : TxId → Key → Bool → List Rec → Bool
holds_after tx key held [] = held
holds_after tx key held (note.Grant u top k ∷ rs) = holds_after tx key (held || (same_tx u tx && same_key k key)) rs
holds_after tx key held (note.Drop u k ∷ rs) = holds_after tx key (held && not (same_tx u tx && same_key k key)) rs
holds_after tx key held (r ∷ rs) = holds_after tx key held rs

-- whether it waits for the key: it was queued, and neither granted nor dropped since
abbrev pub waits_after : TxId → Key → Bool → List Rec → Bool
waits_after tx key waits [] = waits
waits_after tx key waits (note.Queue u k holder ∷ rs) = waits_after tx key (waits || (same_tx u tx && same_key k key)) rs
waits_after tx key waits (note.Grant u top k ∷ rs) = waits_after tx key (waits && not (same_tx u tx && same_key k key)) rs
waits_after tx key waits (note.Drop u k ∷ rs) = waits_after tx key (waits && not (same_tx u tx && same_key k key)) rs
waits_after tx key waits (r ∷ rs) = waits_after tx key waits rs

-- the wait stands after these records of a node
abbrev pub has_stood_by : List Rec → Wait → Bool
has_stood_by recs w = holds_after w.holder w.key false recs && waits_after w.waiter w.key false recs

-- the wait stands at the node after its act with this number
abbrev pub has_stood : Journal → NodeId → ℕ → Wait → Bool
has_stood j node act w = has_stood_by (acts_up_to node act j.scenario j.groups) w

-- the wait stands at the node behind these records of a journal: the node is not lost there
abbrev pub is_queued_behind : List Noted → NodeId → Wait → Bool
is_queued_behind recs node w = not (is_lost recs node) && has_stood_by (recs_of node recs) w

-- One holder.

-- this grant gave the key to no other transaction, or that one has dropped it since
abbrev pub leaves_free : TxId → Key → List Rec → Rec → Bool
leaves_free tx key own (note.Grant u top k) = same_tx u tx || not (same_key k key) || not (holds_after u key false own)
leaves_free tx key own r = true

-- no other transaction holds the key by these records of a node
abbrev pub is_free_for : TxId → Key → List Rec → Bool
is_free_for tx key own = list_all (leaves_free tx key own) own

abbrev pub grant_fits : List Noted → Option NodeId → Rec → Bool
grant_fits before (Some who) (note.Grant tx top key) = is_free_for tx key (recs_of who before)
grant_fits before _ r = true

-- at every moment at most one transaction holds a key at one node
abbrev pub one_holder : Journal → Bool
one_holder j = each_record (λ (before : List Noted) (n : Noted). grant_fits before n.node n.rec) (noted j.scenario j.groups)

-- Reports.

-- each edge's holder is the next one's waiter, and the last one's holder is the transaction
abbrev pub is_chain : TxId → List Edge → Bool
is_chain tx [] = false
is_chain tx (e ∷ []) = same_tx e.wait.holder tx
is_chain tx (e ∷ f ∷ es) = same_tx e.wait.holder f.wait.waiter && is_chain tx (f ∷ es)

abbrev pub begins_with : TxId → List Edge → Bool
begins_with tx [] = false
begins_with tx (e ∷ es) = same_tx e.wait.waiter tx

abbrev pub all_differ : List TxId → Bool
all_differ [] = true
all_differ (t ∷ ts) = not (list_any (same_tx t) ts) && all_differ ts

abbrev pub waiters_of_edges : List Edge → List TxId
waiters_of_edges edges = map (λ (e : Edge). e.wait.waiter) edges

abbrev pub is_expire_of : TxId → Rec → Bool
is_expire_of tx (note.Expire u) = same_tx u tx
is_expire_of tx r = false

-- these records from the transaction's expiry on
abbrev pub from_expire : TxId → List Rec → List Rec
from_expire tx [] = []
from_expire tx (r ∷ rs) = if is_expire_of tx r then r ∷ rs else from_expire tx rs

-- these records up to the transaction's expiry
abbrev pub until_expire : TxId → List Rec → List Rec
until_expire tx [] = []
until_expire tx (r ∷ rs) = if is_expire_of tx r then [] else r ∷ until_expire tx rs

-- an answer of the transaction's search brings the edge
abbrev pub is_brought_edge : TxId → Edge → Rec → Bool
is_brought_edge tx e (note.Deliver from (msg.EdgesOk u round act waits)) =
    same_tx u tx && same_node from e.node && nat_eq act e.act && list_any (same_wait e.wait) waits
is_brought_edge tx e r = false

-- the edge was brought to the starter, behind the expiry
abbrev pub is_gathered : Journal → TxId → Edge → Bool
is_gathered j tx e = list_any (is_brought_edge tx e) (from_expire tx (recs_of tx.node (noted j.scenario j.groups)))

-- a true report: a circle of waits through the transaction, each of which stands at its node and act and was brought by the
-- search
abbrev pub is_true_deadlock : Journal → TxId → List Edge → Bool
is_true_deadlock j tx edges = begins_with tx edges && is_chain tx edges && all_differ (waiters_of_edges edges)
    && list_all (λ (e : Edge). has_stood j e.node e.act e.wait && is_gathered j tx e) edges

abbrev pub report_fits : Journal → Rec → Bool
report_fits j (note.Searched tx []) = true
report_fits j (note.Searched tx (e ∷ es)) = is_true_deadlock j tx (e ∷ es)
report_fits j r = true

-- each report is true of the journal up to its group
abbrev pub reports_fit : Journal → List Group → List Group → Bool
reports_fit j before [] = true
reports_fit j before (g ∷ gs) = list_all (report_fits (record j { groups = before ++ g ∷ [] })) g.recs
    && reports_fit j (before ++ g ∷ []) gs

-- every report of a deadlock is a true one
abbrev pub deadlocks_true : Journal → Bool
deadlocks_true j = reports_fit j [] j.groups
