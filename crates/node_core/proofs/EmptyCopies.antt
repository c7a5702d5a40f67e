-- An empty copy for each row is so many empty copies as there are rows.
use Rattle.std.proofs.Common.{List, [], ap, length, refl, replicate, ◌∷◌, ◌≡◌}
use Rattle.act_rows.specs.NewNodes.{empty_copies}
use Rattle.part_model.specs.Copies.{Copy}
use Rattle.ignite_types.specs.declared.placement.Row.{Row}

pub as_many : (rows : List Row) → empty_copies rows ≡ replicate (length rows) []
as_many [] = refl
as_many (row ∷ rows) = ap (λ (rest : List Copy). [] ∷ rest) (as_many rows)
