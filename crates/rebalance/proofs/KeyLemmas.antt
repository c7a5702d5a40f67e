-- The key of the last entry.
use Rattle.std.proofs.Common.{[], arith, length, List, refl, suc, ◌∷◌, ◌-◌, ◌≡◌}
use Rattle.std.specs.Option.{option_map}
use Rattle.std.specs.Prelude.{slice_get}
use Rattle.act_rows.specs.Filling.{last_key}
use Rattle.ignite_types.specs.declared.message.Stored.{Stored}

pub last_key_there : (es : List Stored) → last_key es ≡ option_map (λ (e : Stored). e.key) (slice_get es (length es - 1))
last_key_there [] = refl
last_key_there (e ∷ []) = refl
last_key_there (e ∷ next ∷ es) =
    let more : length (e ∷ next ∷ es) - 1 ≡ suc (length (next ∷ es) - 1) = omega arith in
    rw more (last_key_there (next ∷ es))
