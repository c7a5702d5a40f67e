use Rattle.std.proofs.Common.{drop, map, ◌++◌, ◌≡◌}
use Rattle.part_model.specs.NextMap.{has_node}
use Rattle.partition_exchange.proofs.installing.owned_parts.Given as goal

abbrev pub invariant-loop-row : goal.invariant-loop-row
invariant-loop-row l = l.owned ++ map (λ row. has_node row.owners l.me) (drop l.row-index l.rows)
    ≡ map (λ row. has_node row.owners l.me) l.rows
