-- A copy that is not there is not changed.
use Rattle.std.proofs.Common.{[], ap, None, refl, slice_get, slice_set, suc, zero, ◌∷◌, ◌≡◌, ℕ}
use Rattle.std.specs.Prelude.{List}
use Rattle.part_model.specs.Copies.{Copy}

pub set_nowhere : (copies : List Copy) (part : ℕ) (copy : Copy) → slice_get copies part ≡ None →
    slice_set copies part copy ≡ copies
set_nowhere [] part copy none = refl
set_nowhere (c ∷ cs) zero copy none = absurd (cc)
set_nowhere (c ∷ cs) (suc n) copy none = ap (λ r. c ∷ r) (set_nowhere cs n copy none)
