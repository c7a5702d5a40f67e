-- The records of an act that took a message.
use Rattle.std.proofs.Common.{ap, List, [], ◌∷◌, ◌++◌, ◌≡◌, ◌∙◌}
use Rattle.ignite_types.specs.declared.journal.Rec.{Rec}

pub delivered : (first notes next whole rest : List Rec) (rec : Rec) → first ≡ [] → next ≡ first ++ rec ∷ [] →
    whole ≡ next ++ notes → notes ≡ rest → whole ≡ rec ∷ rest
delivered first notes next whole rest rec is_empty pushed joined same =
    joined ∙ ap (λ (list : List Rec). list ++ notes) (pushed ∙ ap (λ (list : List Rec). list ++ rec ∷ []) is_empty)
    ∙ ap (λ (list : List Rec). rec ∷ list) same
