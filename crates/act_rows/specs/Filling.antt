-- How the copy of a mover is filled, and what the oldest member is told of it.
use Rattle.std.specs.List.{flat_map, list_all}
use Rattle.std.specs.Ordering.{nat_cmp, ordering_then}
use Rattle.std.specs.Prelude.{Bool, None, Option, Some, [], false, if◌then◌else◌, slice_set, true, ℕ, ◌&&◌, ◌∷◌}
use Rattle.std.specs.declared.cmp.Ordering.{Ordering}
use Rattle.act_rows.specs.Steps.{is_installed, is_oldest, is_open, oldest_seen, rows_of, with_out, with_out_to_oldest}
use Rattle.part_model.specs.Copies.{Copy, batch_of, batch_size, copy_after_supply, copy_at, is_last_batch, without_tombstones}
use Rattle.part_model.specs.NextMap.{has_node}
use Rattle.ignite_types.specs.Names.{node_cmp, top_cmp}
use Rattle.ignite_types.specs.Placement.{capped}
use Rattle.ignite_types.specs.declared.list.List.{List}
use Rattle.ignite_types.specs.declared.message.Stored.{Stored}
use Rattle.ignite_types.specs.declared.names.NodeId.{NodeId}
use Rattle.ignite_types.specs.declared.names.TopVer.{TopVer}
use Rattle.ignite_types.specs.declared.placement.Row.{Row}
use Rattle.ignite_types.specs.declared.text.Key.{Key}
use Rattle.node_state.specs.Node.{NodeState}
use Rattle.node_state.specs.declared.topology.Claim.{Claim}
use Rattle.ordered_set.specs.Members.{has, with_member}
use Rattle.ignite_types.specs.declared.message.Message.TheVariants as msg

-- Demand: the next entries after a key
abbrev pub after_demand : NodeState → NodeId → TopVer → ℕ → Option Key → NodeState
after_demand s from top part after = let copy = copy_at s.stores part in
    if is_installed s top
    then with_out s from (msg.Supply top part (batch_of copy after batch_size) (is_last_batch copy after batch_size))
    else s

abbrev pub with_copy : NodeState → ℕ → Copy → NodeState
with_copy s part copy = record s { stores = slice_set s.stores part copy }

-- the partitions that a node moves, the first of these rows having this number
abbrev pub moved_from : NodeId → ℕ → List Row → List ℕ
moved_from me part [] = []
moved_from me part (row ∷ rows) =
    if has_node row.movers me then part ∷ moved_from me (capped part 1) rows else moved_from me (capped part 1) rows

abbrev pub moved_parts : NodeState → List ℕ
moved_parts s = moved_from s.me 0 (rows_of s)

abbrev pub all_filled : NodeState → Bool
all_filled s = list_all (λ (part : ℕ). has nat_cmp s.complete part) (moved_parts s)

abbrev pub after_claim_if_all : NodeState → TopVer → NodeState
after_claim_if_all s top = if all_filled s then with_out_to_oldest s (msg.Complete top) (oldest_seen s) else s

-- the partition is complete, and its tombstones are dropped
abbrev pub after_complete_part : NodeState → TopVer → ℕ → NodeState
after_complete_part s top part = after_claim_if_all (record (with_copy s part (without_tombstones (copy_at s.stores part))) {
  complete = with_member nat_cmp s.complete part;
}) top

abbrev pub last_key : List Stored → Option Key
last_key [] = None
last_key (e ∷ []) = Some e.key
last_key (e ∷ es) = last_key es

abbrev pub after_supplied : NodeState → NodeId → TopVer → ℕ → List Stored → Bool → NodeState
after_supplied s from top part entries true = after_complete_part s top part
after_supplied s from top part entries false = with_out s from (msg.Demand top part (last_key entries))

-- Supply: its entries are kept, and the next ones are asked for
abbrev pub after_supply : NodeState → NodeId → TopVer → ℕ → List Stored → Bool → NodeState
after_supply s from top part entries last = if is_installed s top
    then after_supplied (with_copy s part (copy_after_supply (copy_at s.stores part) entries)) from top part entries last
    else s

abbrev pub claim_cmp : Claim → Claim → Ordering
claim_cmp a b = ordering_then (top_cmp a.top b.top) (node_cmp a.node b.node)

-- Complete: the sender's claim is kept
abbrev pub after_complete : NodeState → NodeId → TopVer → NodeState
after_complete s from top = record s { claims = with_member claim_cmp s.claims (record { top = top; node = from }) }

-- The late switch of owners.

abbrev pub movers_in : List Row → List NodeId
movers_in rows = flat_map (λ (row : Row). row.movers) rows

abbrev pub has_claim : NodeState → NodeId → Bool
has_claim s node = has claim_cmp s.claims (record { top = s.seen; node = node })

abbrev pub all_claimed : NodeState → List NodeId → Bool
all_claimed s [] = false
all_claimed s (mover ∷ movers) = list_all (has_claim s) (mover ∷ movers)

-- whether this node begins the late switch: it is the oldest member, the last version seen is open here, and all movers,
-- of which there are some, have filled their copies
abbrev pub may_switch : NodeState → Bool
may_switch s = is_oldest s && is_installed s s.seen && is_open s s.opened && all_claimed s (movers_in (rows_of s))
