-- The movers of rows, seen row by row.
use Rattle.std.specs.List.{list_all, list_any}
use Rattle.std.specs.Prelude.{Bool, [], false, true, ◌∷◌}
use Rattle.act_rows.specs.Filling.{has_claim}
use Rattle.ignite_types.specs.declared.list.List.{List}
use Rattle.ignite_types.specs.declared.names.NodeId.{NodeId}
use Rattle.ignite_types.specs.declared.placement.Row.{Row}
use Rattle.node_state.specs.Node.{NodeState}

abbrev pub has_movers : List NodeId → Bool
has_movers [] = false
has_movers (node ∷ nodes) = true

-- whether a partition has a mover
abbrev pub has_mover : List Row → Bool
has_mover rows = list_any (λ (row : Row). has_movers row.movers) rows

-- whether each mover has claimed
abbrev pub all_claim : NodeState → List Row → Bool
all_claim s rows = list_all (λ (row : Row). list_all (has_claim s) row.movers) rows
