-- The machine of the tests: two numbers, of which amounts move from one to the other.
use Rattle.std.specs.Prelude.{ℕ, ◌+◌, ◌-◌, ◌==◌, if◌then◌else◌, List, [], ◌∷◌}

-- the two numbers after the amount has moved away from that part
abbrev pub moved : ℕ → ℕ → List ℕ → List ℕ
moved from amount [] = []
moved from amount (x ∷ []) = x ∷ []
moved from amount (x ∷ y ∷ rest) = if from == 0 then (x - amount) ∷ (y + amount) ∷ [] else (x + amount) ∷ (y - amount) ∷ []
