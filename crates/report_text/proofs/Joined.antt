-- One text after another.
use Rattle.std.proofs.Common.{OnOk, Result, List, ap, append_assoc, ◌++◌, ◌≡◌, ◌∙◌, ℕ}
use Rattle.std.proofs.lemmas.Result.{on_ok_weaker}

-- two calls that append, the second one's result being the whole's
pub joined : {T E : Type 0} (r : Result T E) (new mid old a b : List ℕ)
    → mid ≡ old ++ a
    → OnOk r (new ≡ mid ++ b)
    → OnOk r (new ≡ old ++ (a ++ b))
joined r new mid old a b first second =
    on_ok_weaker r (λ (e : new ≡ mid ++ b). e ∙ ap (λ (xs : List ℕ). xs ++ b) first ∙ append_assoc old a b) second
