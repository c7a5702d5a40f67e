-- The copies that stay under a map are those of the rows that the node owns.
use Rattle.std.proofs.Common.{List, [], ap, cond, map, refl, ◌∷◌, ◌≡◌}
use Rattle.act_rows.specs.Exchange.{kept_copies}
use Rattle.part_model.specs.Copies.{Copy}
use Rattle.part_model.specs.NextMap.{has_node}
use Rattle.ignite_types.specs.declared.names.NodeId.{NodeId}
use Rattle.ignite_types.specs.declared.placement.Row.{Row}
use Rattle.partition_store.specs.Keeping.{copies_kept}

pub kept_by_rows : (me : NodeId) (copies : List Copy) (rows : List Row) →
    copies_kept copies (map (λ (row : Row). has_node row.owners me) rows) ≡ kept_copies me copies rows
kept_by_rows me [] rows = refl
kept_by_rows me (copy ∷ copies) [] = ap (λ rest. [] ∷ rest) (kept_by_rows me copies [])
kept_by_rows me (copy ∷ copies) (row ∷ rows) = ap (λ rest. cond (has_node row.owners me) copy [] ∷ rest)
    (kept_by_rows me copies rows)
