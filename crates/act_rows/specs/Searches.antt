-- Timeouts, and the search for a deadlock.
use Rattle.std.specs.Option.{option_and_then, option_map}
use Rattle.std.specs.Prelude.{Bool, None, Option, Some, [], false, filter, if◌then◌else◌, length, map, min, nat_eq, nat_le, nat_lt, true, ℕ, ◌&&◌, ◌∷◌}
use Rattle.act_rows.specs.Accesses.{tx_state_of}
use Rattle.act_rows.specs.Decisions.{after_fail, txs_of}
use Rattle.act_rows.specs.Steps.{entry_of, live_among, on_entry, outs_to, with_note, with_outs}
use Rattle.part_model.specs.Cycles.{cycle_through, with_waits}
use Rattle.part_model.specs.Directory.{node_set}
use Rattle.ignite_types.specs.Good.{members}
use Rattle.ignite_types.specs.Names.{node_cmp, tx_cmp}
use Rattle.ignite_types.specs.Placement.{capped}
use Rattle.ignite_types.specs.declared.list.List.{List}
use Rattle.ignite_types.specs.declared.message.Edge.{Edge}
use Rattle.ignite_types.specs.declared.message.Wait.{Wait}
use Rattle.ignite_types.specs.declared.names.NodeId.{NodeId}
use Rattle.ignite_types.specs.declared.names.TxId.{TxId}
use Rattle.node_state.specs.declared.near.Search.{Search}
use Rattle.node_state.specs.declared.near.TxEntry.{TxEntry}
use Rattle.node_state.specs.declared.near.TxState.{TxState}
use Rattle.node_state.specs.Node.{NodeState}
use Rattle.node_state.specs.declared.session.SessionState.{SessionState}
use Rattle.ordered_set.specs.Members.{has, with_member, without_member}
use Rattle.ignite_types.specs.declared.answer.Fault.TheVariants as fault
use Rattle.ignite_types.specs.declared.message.Message.TheVariants as msg
use Rattle.ignite_types.specs.declared.journal.Rec.TheVariants as note
use Rattle.node_state.specs.declared.near.TxState.TheVariants as state

abbrev pub on_search : (Search → Search) → TxEntry → TxEntry
on_search f e = record e { search = option_map f e.search }

-- Edges to each of these nodes, for all transactions known
abbrev pub after_ask : NodeState → TxId → ℕ → List TxId → List NodeId → NodeState
after_ask s tx round known nodes = with_outs s (outs_to nodes (msg.Edges tx round known))

abbrev pub new_search : List NodeId → TxId → Search
new_search members tx = record { round = 1; members = members; awaited = members; known = tx ∷ []; edges = [] }

abbrev pub with_search : NodeState → TxId → Search → NodeState
with_search s tx search =
    on_entry s tx (λ (e : TxEntry). record e { state = state.Searching; search = Some search }) (entry_of s tx)

-- the first round asks every member for the waits of the transaction
abbrev pub after_begin_search : NodeState → TxId → NodeState
after_begin_search s tx =
    let members = node_set [] s.members in after_ask (with_search s tx (new_search members tx)) tx 1 (tx ∷ []) members

abbrev pub after_expire_in : NodeState → TxId → TxState → NodeState
after_expire_in s tx state.Waiting = after_begin_search s tx
after_expire_in s tx _ = after_fail s tx fault.Timeout

-- the deadline was reached: what waits for a lock is searched first, anything else is rolled back
abbrev pub after_expire : NodeState → TxId → NodeState
after_expire s tx = after_expire_in (with_note s (note.Expire tx)) tx (tx_state_of s tx)

abbrev pub with_named : List TxId → List Edge → List TxId
with_named known [] = known
with_named known (edge ∷ edges) =
    with_named (with_member tx_cmp (with_member tx_cmp known edge.wait.waiter) edge.wait.holder) edges

abbrev pub search_of_next_round : NodeState → Search → List TxId → Search
search_of_next_round s search known = record search {
  round = capped search.round 1;
  awaited = live_among s search.members;
  known = known;
}

abbrev pub after_next_round : NodeState → TxId → Search → NodeState
after_next_round s tx search = after_ask (with_search s tx search) tx search.round search.known search.awaited

-- nothing new was named: no deadlock is found
abbrev pub after_search_clear : NodeState → TxId → Search → List TxId → NodeState
after_search_clear s tx search named = if nat_eq (length named) (length search.known)
    then after_fail (with_note s (note.Searched tx [])) tx fault.Timeout
    else after_next_round s tx (search_of_next_round s search named)

abbrev pub after_search : NodeState → TxId → Search → Option (List Edge) → NodeState
after_search s tx search (Some cycle) = after_fail (with_note s (note.Searched tx cycle)) tx fault.Deadlock
after_search s tx search None = after_search_clear s tx search (with_named search.known search.edges)

abbrev pub after_round : NodeState → TxId → Search → List NodeId → NodeState
after_round s tx search [] = after_search s tx search (cycle_through tx search.edges)
after_round s tx search (node ∷ more) = with_search s tx search

-- the waits of one answer are kept
abbrev pub search_with_answer : Search → NodeId → ℕ → List Wait → Search
search_with_answer search from act waits = record search {
  awaited = without_member node_cmp search.awaited from;
  edges = with_waits search.edges from act waits;
}

abbrev pub after_gather : NodeState → TxId → Search → NodeState
after_gather s tx search = after_round s tx search search.awaited

abbrev pub after_edges_ok_for : NodeState → NodeId → TxId → ℕ → ℕ → List Wait → Search → NodeState
after_edges_ok_for s from tx round act waits search = if nat_eq search.round round && has node_cmp search.awaited from
    then after_gather s tx (search_with_answer search from act waits)
    else s

abbrev pub after_edges_ok_in : NodeState → NodeId → TxId → ℕ → ℕ → List Wait → Option Search → NodeState
after_edges_ok_in s from tx round act waits None = s
after_edges_ok_in s from tx round act waits (Some search) = after_edges_ok_for s from tx round act waits search

abbrev pub search_of : NodeState → TxId → Option Search
search_of s tx = option_and_then (λ (e : TxEntry). e.search) (entry_of s tx)

-- EdgesOk: an answer of the round in work
abbrev pub after_edges_ok : NodeState → NodeId → TxId → ℕ → ℕ → List Wait → NodeState
after_edges_ok s from tx round act waits = after_edges_ok_in s from tx round act waits (search_of s tx)

-- a search is cut by the loss of a node whose answer it awaits

abbrev pub is_cut : NodeId → Option Search → Bool
is_cut node None = false
is_cut node (Some search) = has node_cmp search.awaited node

abbrev pub after_left_at_each_search : NodeState → NodeId → List TxId → NodeState
after_left_at_each_search s node [] = s
after_left_at_each_search s node (tx ∷ txs) =
    after_left_at_each_search (if is_cut node (search_of s tx) then after_fail s tx (fault.Cut node) else s) node txs

abbrev pub after_left_at_searches : NodeState → NodeId → NodeState
after_left_at_searches s node = after_left_at_each_search s node (txs_of s)

-- When a deadline counts: the transaction is undecided, has no fault and is not searched for.

abbrev pub may_time_out : TxState → Bool
may_time_out state.Idle = true
may_time_out state.Active = true
may_time_out state.Waiting = true
may_time_out state.Preparing = true
may_time_out _ = false

abbrev pub live_deadline : TxEntry → Option ℕ
live_deadline e = if may_time_out e.state then e.deadline else None

abbrev pub is_reached : ℕ → Option ℕ → Bool
is_reached now None = false
is_reached now (Some moment) = nat_le moment now

-- the transaction's deadline counts and was reached
abbrev pub is_overdue : NodeState → TxId → Bool
is_overdue s tx = is_reached s.now (option_and_then live_deadline (entry_of s tx))

-- the transactions that may expire, ascending
abbrev pub overdue_txs : NodeState → List TxId
overdue_txs s = filter (is_overdue s) (txs_of s)

-- the least of these moments after the clock
abbrev pub sooner_moment : ℕ → Option ℕ → Option ℕ → Option ℕ
sooner_moment now best None = best
sooner_moment now None (Some moment) = if nat_lt now moment then Some moment else None
sooner_moment now (Some best) (Some moment) = if nat_lt now moment then Some (min best moment) else Some best

abbrev pub soonest_moment : ℕ → Option ℕ → List (Option ℕ) → Option ℕ
soonest_moment now best [] = best
soonest_moment now best (moment ∷ moments) = soonest_moment now (sooner_moment now best moment) moments

-- the least deadline or sleep end after the clock
abbrev pub next_moment : NodeState → Option ℕ
next_moment s = soonest_moment s.now (soonest_moment s.now None (map (λ (e : TxId × TxEntry). live_deadline e.1) s.txs))
    (map (λ (e : ℕ × SessionState). e.1.wake) s.session_states)
