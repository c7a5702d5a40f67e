-- The copies of which some stay and the others are emptied.
use Rattle.std.specs.Prelude.{Bool, List, [], if◌then◌else◌, ◌∷◌}
use Rattle.part_model.specs.Copies.{Copy}

-- by the partitions' numbers: whether a copy stays; one of which nothing is said is emptied
abbrev pub copies_kept : List Copy → List Bool → List Copy
copies_kept [] stay = []
copies_kept (copy ∷ copies) [] = [] ∷ copies_kept copies []
copies_kept (copy ∷ copies) (stays ∷ more) = (if stays then copy else []) ∷ copies_kept copies more
