-- Two steps of a write put what one step would.
use Rattle.std.proofs.Common.{◌≡◌, ℕ, ◌+◌, ◌-◌, List, ◌++◌, length, take, drop, Option, None, Some, sym, ap, ◌∙◌, append_assoc, length-drop}
use Rattle.std.proofs.Math.Seq.{take-add, take-length}
use Rattle.std.specs.Io.KnownBytes.{append_known}

append_joined : (a b c : Option (List ℕ)) (bs cs : List ℕ) → b ≡ append_known a bs → c ≡ append_known b cs →
    c ≡ append_known a (bs ++ cs)
append_joined None b c bs cs p q = q ∙ ap (λ o. append_known o cs) p
append_joined (Some x) b c bs cs p q = q ∙ ap (λ o. append_known o cs) p ∙ ap Some (append_assoc x bs cs)

-- the slice from m to the end
slice_from : (bs : List ℕ) (m : ℕ) → take (length bs - m) (drop m bs) ≡ drop m bs
slice_from bs m = rw (length-drop m bs) at (take-length (drop m bs))

-- the first m bytes, and then n bytes of the slice from m on
pub append_taken : (a b c : Option (List ℕ)) (bs : List ℕ) (m n : ℕ) → b ≡ append_known a (take m bs)
    → c ≡ append_known b (take n (take (length bs - m) (drop m bs))) → c ≡ append_known a (take (m + n) bs)
append_taken a b c bs m n p q =
    append_joined a b c _ _ p (q ∙ ap (λ l. append_known b (take n l)) (slice_from bs m))
    ∙ ap (append_known a) (sym (take-add m n bs))
