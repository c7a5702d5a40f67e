-- The search of a transaction for a deadlock, as the records of its starter tell it: when it found nothing, and when it was
-- cut.
use Rattle.std.specs.List.{flat_map, list_all, list_any}
use Rattle.std.specs.Prelude.{Bool, [], false, filter, if◌then◌else◌, length, map, max, nat_eq, nat_le, not, suc, take, true, zero, ℕ, ◌&&◌, ◌-◌, ◌||◌, ◌∷◌}
use Rattle.part_model.specs.NextMap.{has_node}
use Rattle.ignite_types.specs.Names.{same_node, same_tx, tx_cmp}
use Rattle.ignite_types.specs.declared.journal.Rec.{Rec}
use Rattle.ignite_types.specs.declared.journal.TopoEvent.{TopoEvent}
use Rattle.ignite_types.specs.declared.list.List.{List}
use Rattle.ignite_types.specs.declared.message.Wait.{Wait}
use Rattle.ignite_types.specs.declared.names.NodeId.{NodeId}
use Rattle.ignite_types.specs.declared.names.TxId.{TxId}
use Rattle.ignite_types.specs.declared.scenario.Member.{Member}
use Rattle.ignite_types.specs.declared.scenario.Scenario.{Scenario}
use Rattle.ordered_set.specs.Members.{has, with_member}
use Rattle.journal_statements.specs.Topologies.{first_topology, last_topology, left_among, read_from, seen_events}
use Rattle.journal_statements.specs.Waits.{from_expire, until_expire}
use Rattle.ignite_types.specs.declared.message.Message.TheVariants as msg
use Rattle.ignite_types.specs.declared.journal.Rec.TheVariants as note

-- Waits, and circles of waits.

-- also those for whom a member of the set waits
abbrev pub with_holders_awaited : List Wait → List TxId → List TxId
with_holders_awaited [] set = set
with_holders_awaited (w ∷ ws) set =
    with_holders_awaited ws (if has tx_cmp set w.waiter then with_member tx_cmp set w.holder else set)

abbrev pub awaited_within : ℕ → List Wait → List TxId → List TxId
awaited_within zero waits set = set
awaited_within (suc steps) waits set = awaited_within steps waits (with_holders_awaited waits set)

abbrev pub with_txs : List TxId → List TxId → List TxId
with_txs set [] = set
with_txs set (t ∷ ts) = with_txs (with_member tx_cmp set t) ts

-- for whom the transaction itself waits
abbrev pub awaited_by : TxId → List Wait → List TxId
awaited_by tx waits = with_txs [] (map (λ (w : Wait). w.holder) (filter (λ (w : Wait). same_tx w.waiter tx) waits))

-- the transaction waits, by way of others, for itself
abbrev pub has_circle : TxId → List Wait → Bool
has_circle tx waits = has tx_cmp (awaited_within (length waits) waits (awaited_by tx waits)) tx

-- Questions and answers of a transaction's search, among the records of its starter behind the expiry.

abbrev pub round_after : TxId → ℕ → Rec → ℕ
round_after tx round (note.Sent to (msg.Edges u number of)) = if same_tx u tx then max round number else round
round_after tx round r = round

abbrev pub round_over : TxId → ℕ → List Rec → ℕ
round_over tx round [] = round
round_over tx round (r ∷ rs) = round_over tx (round_after tx round r) rs

-- the last round of which a question was sent
abbrev pub last_round : TxId → List Rec → ℕ
last_round tx search = round_over tx 0 search

abbrev pub asked_in_rec : TxId → ℕ → Rec → List NodeId
asked_in_rec tx round (note.Sent to (msg.Edges u number of)) = if same_tx u tx && nat_eq number round then to ∷ [] else []
asked_in_rec tx round r = []

-- the nodes that were asked in a round
abbrev pub asked_in : TxId → ℕ → List Rec → List NodeId
asked_in tx round search = flat_map (asked_in_rec tx round) search

abbrev pub is_answer_of : TxId → ℕ → NodeId → Rec → Bool
is_answer_of tx round id (note.Deliver from (msg.EdgesOk u number act waits)) =
    same_node from id && same_tx u tx && nat_eq number round
is_answer_of tx round id r = false

abbrev pub waits_in_rec : TxId → Rec → List Wait
waits_in_rec tx (note.Deliver from (msg.EdgesOk u number act waits)) = if same_tx u tx then waits else []
waits_in_rec tx r = []

-- all waits that the answers brought
abbrev pub waits_brought : TxId → List Rec → List Wait
waits_brought tx search = flat_map (waits_in_rec tx) search

abbrev pub names_known : List TxId → Wait → Bool
names_known known w = list_any (same_tx w.waiter) known && list_any (same_tx w.holder) known

-- a question of this round asks for the transaction and all that these waits name
abbrev pub asks_for_all : TxId → ℕ → List Wait → Rec → Bool
asks_for_all tx round waits (note.Sent to (msg.Edges u number of)) = not (same_tx u tx && nat_eq number round)
    || (list_any (same_tx tx) of && list_all (names_known of) waits)
asks_for_all tx round waits r = true

-- Whom the search asks.

-- the members of the last version that the starter had seen when the search began
abbrev pub members_at_expire : Scenario → List TopoEvent → TxId → List Rec → List NodeId
members_at_expire scenario events tx own = map (λ (m : Member). m.node)
    (last_topology (first_topology scenario) (seen_events events (until_expire tx own))).members

-- those of them that are not among these events as left
abbrev pub not_left : List TopoEvent → List NodeId → List NodeId
not_left events nodes = filter (λ (id : NodeId). not (has_node (left_among events) id)) nodes

-- The two ends.

-- The search found nothing: in its last round each member that the starter did not see leave was asked, each node that was
-- asked
-- has answered, no answer named a transaction for which that round did not ask, and the waits have no circle through this one.
abbrev pub is_clear : Scenario → List TopoEvent → List Rec → TxId → Bool
is_clear scenario events own tx =
    let search = from_expire tx own in let round = last_round tx search in let waits = waits_brought tx search in
    list_all (has_node (asked_in tx round search))
    (not_left (seen_events events own) (members_at_expire scenario events tx own))
    && list_all (λ (id : NodeId). list_any (is_answer_of tx round id) search) (asked_in tx round search)
    && list_all (asks_for_all tx round waits) search
    && not (has_circle tx waits)

abbrev pub is_any_answer_of : TxId → NodeId → Rec → Bool
is_any_answer_of tx id (note.Deliver from (msg.EdgesOk u number act waits)) = same_node from id && same_tx u tx
is_any_answer_of tx id r = false

-- each node answers each round once
abbrev pub answers_given : TxId → List Rec → NodeId → ℕ
answers_given tx search id = length (filter (is_any_answer_of tx id) search)

-- the starter had not seen it leave before the last event that it has seen
abbrev pub still_asked : Scenario → List TopoEvent → List Rec → TxId → List NodeId
still_asked scenario events own tx =
    not_left (take (read_from 0 own - 1) events) (members_at_expire scenario events tx own)

-- The search lacks the answer of this node, of which the last event tells: it is one of those that are still asked, and none of
-- them has answered fewer rounds.
abbrev pub lacks_answer : Scenario → List TopoEvent → List Rec → TxId → NodeId → Bool
lacks_answer scenario events own tx id =
    let search = from_expire tx own in let nodes = still_asked scenario events own tx in
    has_node nodes id
    && list_all (λ (other : NodeId). nat_le (answers_given tx search id) (answers_given tx search other)) nodes
