-- The search for a deadlock in the waits that were gathered: the first cycle through a transaction, depth first.
use Rattle.std.specs.List.{list_any}
use Rattle.std.specs.Option.{option_map}
use Rattle.std.specs.Prelude.{Bool, None, Option, Some, [], false, if◌then◌else◌, length, suc, true, zero, ℕ, ◌&&◌, ◌++◌, ◌+◌, ◌∷◌}
use Rattle.ignite_types.specs.Names.{same_key, same_node, same_tx, tx_cmp}
use Rattle.ignite_types.specs.declared.list.List.{List}
use Rattle.ignite_types.specs.declared.message.Edge.{Edge}
use Rattle.ignite_types.specs.declared.message.Wait.{Wait}
use Rattle.ignite_types.specs.declared.names.NodeId.{NodeId}
use Rattle.ignite_types.specs.declared.names.TxId.{TxId}
use Rattle.ordered_set.specs.Members.{has, with_member}

abbrev pub same_wait : Wait → Wait → Bool
same_wait a b = same_key a.key b.key && same_tx a.waiter b.waiter && same_tx a.holder b.holder

abbrev pub same_edge : Edge → Edge → Bool
same_edge a b = same_node a.node b.node && same_wait a.wait b.wait

-- of two equal waits from one node the first is kept
abbrev pub with_edge : List Edge → Edge → List Edge
with_edge edges edge = if list_any (same_edge edge) edges then edges else edges ++ edge ∷ []

-- the waits of one answer, in its order
abbrev pub with_waits : List Edge → NodeId → ℕ → List Wait → List Edge
with_waits edges node act [] = edges
with_waits edges node act (wait ∷ waits) =
    with_waits (with_edge edges (record { node = node; act = act; wait = wait })) node act waits

-- a descent through waits: the way back to the transaction, if one was found, and the transactions that were entered
pub record Descent : Type 0 where
  pub way : Option (List Edge)
  pub entered : List TxId

abbrev pub no_way : List TxId → Descent
no_way entered = record { way = None; entered = entered }

-- an edge in front of the way that was found from its holder
abbrev pub way_behind_edge : Edge → Descent → Descent
way_behind_edge edge found = record { way = option_map (λ (way : List Edge). edge ∷ way) found.way; entered = found.entered }

abbrev pub way_into_holder : (List TxId → TxId → Descent) → Edge → List TxId → Bool → Bool → Descent
way_into_holder deeper edge entered true _ = record { way = Some (edge ∷ []); entered = entered }
way_into_holder deeper edge entered false true = no_way entered
way_into_holder deeper edge entered false false =
    way_behind_edge edge (deeper (with_member tx_cmp entered edge.wait.holder) edge.wait.holder)

-- one edge is followed: it ends at the transaction, or the descent goes on from its holder
abbrev pub way_along : (List TxId → TxId → Descent) → TxId → Edge → List TxId → Descent
way_along deeper tx edge entered =
    way_into_holder deeper edge entered (same_tx edge.wait.holder tx) (has tx_cmp entered edge.wait.holder)

abbrev pub way_through : (List TxId → TxId → Descent) → TxId → TxId → List TxId → Edge → Descent
way_through deeper tx at_tx entered edge =
    if same_tx edge.wait.waiter at_tx then way_along deeper tx edge entered else no_way entered

-- a way that was found, or else what comes later
abbrev pub way_or_later : List TxId → Option (List Edge) → (List TxId → Descent) → Descent
way_or_later entered None later = later entered
way_or_later entered (Some way) later = record { way = Some way; entered = entered }

abbrev pub way_then_later : Descent → (List TxId → Descent) → Descent
way_then_later found later = way_or_later found.entered found.way later

-- the edges of one waiter are tried in kept order; no transaction is entered twice
abbrev pub way_through_each : (List TxId → TxId → Descent) → TxId → TxId → List TxId → List Edge → Descent
way_through_each deeper tx at_tx entered [] = no_way entered
way_through_each deeper tx at_tx entered (edge ∷ edges) =
    way_then_later (way_through deeper tx at_tx entered edge)
    (λ now_entered. way_through_each deeper tx at_tx now_entered edges)

abbrev pub way_down : ℕ → TxId → List Edge → List TxId → TxId → Descent
way_down zero tx edges entered at_tx = no_way entered
way_down (suc depth) tx edges entered at_tx =
    way_through_each (λ now_entered holder. way_down depth tx edges now_entered holder) tx at_tx entered edges

-- the first cycle through the transaction, its edges in order
abbrev pub cycle_through : TxId → List Edge → Option (List Edge)
cycle_through tx edges = (way_down (length edges + 1) tx edges (tx ∷ []) tx).way
