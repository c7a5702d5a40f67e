-- Timeouts, and the search for a deadlock: each row extends the node.
use Rattle.std.proofs.Common.{Bool, List, [], ◌∷◌, Option, Some, None, if◌then◌else◌, refl}
use Rattle.std.specs.Prelude.{length, nat_eq, ℕ, ◌&&◌}
use Rattle.frame_laws.proofs.Steps.{on_entry_kept}
use Rattle.frame_laws.proofs.Decisions.{fails_kept}
use Rattle.act_rows.specs.Accesses.{tx_state_of}
use Rattle.act_rows.specs.Decisions.{after_fail, txs_of}
use Rattle.act_rows.specs.Searches.{after_ask, after_begin_search, after_edges_ok, after_edges_ok_for, after_edges_ok_in, after_expire, after_expire_in, after_gather, after_left_at_each_search, after_left_at_searches, after_next_round, after_round, after_search, after_search_clear, is_cut, new_search, search_of, search_of_next_round, search_with_answer, with_named, with_search}
use Rattle.act_rows.specs.Steps.{entry_of, outs_to, with_note}
use Rattle.part_model.specs.Cycles.{cycle_through}
use Rattle.part_model.specs.Directory.{node_set}
use Rattle.ignite_types.specs.Names.{node_cmp}
use Rattle.ignite_types.specs.declared.message.Edge.{Edge}
use Rattle.ignite_types.specs.declared.message.Wait.{Wait}
use Rattle.ignite_types.specs.declared.names.NodeId.{NodeId}
use Rattle.ignite_types.specs.declared.names.TxId.{TxId}
use Rattle.node_state.specs.declared.near.Search.{Search}
use Rattle.node_state.specs.declared.near.TxEntry.{TxEntry}
use Rattle.node_state.specs.declared.near.TxState.{TxState}
use Rattle.node_state.specs.Node.{NodeState}
use Rattle.ordered_set.specs.Members.{has}
use Rattle.ignite_types.specs.declared.answer.Fault.TheVariants as fault
use Rattle.ignite_types.specs.declared.message.Message.TheVariants as msg
use Rattle.ignite_types.specs.declared.journal.Rec.TheVariants as note
use Rattle.node_state.specs.declared.near.TxState.TheVariants as state
use Rattle.frame_laws.proofs.Plain.{to_plain}
use Rattle.frame_laws.specs.Kits.{ClosedUnderWatchedSteps}
use Rattle.frame_laws.proofs.Kits.{either_kept}

module _ {watched : Bool} (R : NodeState → NodeState → Type 0) (kit : ClosedUnderWatchedSteps watched R) where
  pub asks_kept : (s : NodeState) (tx : TxId) (round : ℕ) (known : List TxId) (nodes : List NodeId) →
      R s (after_ask s tx round known nodes)
  asks_kept s tx round known nodes = kit.sent_all s (outs_to nodes (msg.Edges tx round known))
      (to_plain nodes (msg.Edges tx round known) refl)

  pub searching_kept : (s : NodeState) (tx : TxId) (search : Search) → R s (with_search s tx search)
  searching_kept s tx search =
      on_entry_kept R kit s tx (λ (e : TxEntry). record e { state = state.Searching; search = Some search }) (entry_of s tx)

  pub begins_search_kept : (s : NodeState) (tx : TxId) → R s (after_begin_search s tx)
  begins_search_kept s tx =
      let members : List NodeId = node_set [] s.members in
      let here : NodeState = with_search s tx (new_search members tx) in
      kit.andthen s here (after_ask here tx 1 (tx ∷ []) members) (searching_kept s tx (new_search members tx))
      (asks_kept here tx 1 (tx ∷ []) members)

  pub expire_in_kept : (s : NodeState) (tx : TxId) (now : TxState) → R s (after_expire_in s tx now)
  expire_in_kept s tx state.Waiting = begins_search_kept s tx
  expire_in_kept s tx state.Idle = fails_kept R kit s tx fault.Timeout
  expire_in_kept s tx state.Active = fails_kept R kit s tx fault.Timeout
  expire_in_kept s tx state.Searching = fails_kept R kit s tx fault.Timeout
  expire_in_kept s tx state.Preparing = fails_kept R kit s tx fault.Timeout
  expire_in_kept s tx state.Committing = fails_kept R kit s tx fault.Timeout
  expire_in_kept s tx state.RollingBack = fails_kept R kit s tx fault.Timeout
  expire_in_kept s tx state.Ended = fails_kept R kit s tx fault.Timeout

  pub expire_row_kept : (s : NodeState) (tx : TxId) → R s (after_expire s tx)
  expire_row_kept s tx =
      let here : NodeState = with_note s (note.Expire tx) in
      kit.andthen s here (after_expire_in here tx (tx_state_of s tx)) (kit.noting s (note.Expire tx) refl refl refl)
      (expire_in_kept here tx (tx_state_of s tx))

  pub next_round_kept : (s : NodeState) (tx : TxId) (search : Search) → R s (after_next_round s tx search)
  next_round_kept s tx search =
      let here : NodeState = with_search s tx search in
      kit.andthen s here (after_ask here tx search.round search.known search.awaited) (searching_kept s tx search)
      (asks_kept here tx search.round search.known search.awaited)

  pub search_clear_kept : (s : NodeState) (tx : TxId) (search : Search) (named : List TxId) →
      R s (after_search_clear s tx search named)
  search_clear_kept s tx search named =
      let here : NodeState = with_note s (note.Searched tx []) in
      either_kept R kit s (after_fail here tx fault.Timeout) (after_next_round s tx (search_of_next_round s search named))
      (nat_eq (length named) (length search.known))
      (kit.andthen s here (after_fail here tx fault.Timeout) (kit.noting s (note.Searched tx []) refl refl refl)
      (fails_kept R kit here tx fault.Timeout))
      (next_round_kept s tx (search_of_next_round s search named))

  pub searched_kept : (s : NodeState) (tx : TxId) (search : Search) (found : Option (List Edge)) →
      R s (after_search s tx search found)
  searched_kept s tx search (Some cycle) =
      let here : NodeState = with_note s (note.Searched tx cycle) in
      kit.andthen s here (after_fail here tx fault.Deadlock) (kit.noting s (note.Searched tx cycle) refl refl refl)
      (fails_kept R kit here tx fault.Deadlock)
  searched_kept s tx search None = search_clear_kept s tx search (with_named search.known search.edges)

  pub round_over_kept : (s : NodeState) (tx : TxId) (search : Search) (awaited : List NodeId) →
      R s (after_round s tx search awaited)
  round_over_kept s tx search [] = searched_kept s tx search (cycle_through tx search.edges)
  round_over_kept s tx search (who ∷ more) = searching_kept s tx search

  pub answer_gathered_kept : (s : NodeState) (tx : TxId) (search : Search) → R s (after_gather s tx search)
  answer_gathered_kept s tx search = round_over_kept s tx search search.awaited

  pub edges_ok_for_kept : (s : NodeState) (from : NodeId) (tx : TxId) (round act : ℕ) (waits : List Wait) (search : Search) →
      R s (after_edges_ok_for s from tx round act waits search)
  edges_ok_for_kept s from tx round act waits search =
      either_kept R kit s (after_gather s tx (search_with_answer search from act waits)) s (nat_eq search.round round
      && has node_cmp search.awaited from)
      (answer_gathered_kept s tx (search_with_answer search from act waits)) (kit.nothing s)

  pub edges_ok_in_kept : (s : NodeState) (from : NodeId) (tx : TxId) (round act : ℕ) (waits : List Wait)
      (found : Option Search) → R s (after_edges_ok_in s from tx round act waits found)
  edges_ok_in_kept s from tx round act waits None = kit.nothing s
  edges_ok_in_kept s from tx round act waits (Some search) = edges_ok_for_kept s from tx round act waits search

  pub edges_ok_row_kept : (s : NodeState) (from : NodeId) (tx : TxId) (round act : ℕ) (waits : List Wait) →
      R s (after_edges_ok s from tx round act waits)
  edges_ok_row_kept s from tx round act waits = edges_ok_in_kept s from tx round act waits (search_of s tx)

  -- a search is cut by the loss of a node whose answer it awaits

  pub searches_left_kept : (s : NodeState) (who : NodeId) (txs : List TxId) → R s (after_left_at_each_search s who txs)
  searches_left_kept s who [] = kit.nothing s
  searches_left_kept s who (tx ∷ txs) =
      let here : NodeState = if is_cut who (search_of s tx) then after_fail s tx (fault.Cut who) else s in
      kit.andthen s here (after_left_at_each_search here who txs)
      (either_kept R kit s (after_fail s tx (fault.Cut who)) s (is_cut who (search_of s tx))
      (fails_kept R kit s tx (fault.Cut who)) (kit.nothing s))
      (searches_left_kept here who txs)

  pub search_left_kept : (s : NodeState) (who : NodeId) → R s (after_left_at_searches s who)
  search_left_kept s who = searches_left_kept s who (txs_of s)
