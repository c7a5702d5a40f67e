-- A test that is tried on each number below a bound.
use Rattle.std.proofs.Common.{◌≡◌, ℕ, zero, suc, ◌<◌, ◌⊎◌, inl, inr, Bool, true, ◌&&◌, arith, subst, sym}
use Rattle.std.proofs.Math.Nat.{eq-or-lt_of_le}
use Rattle.std.proofs.lemmas.Bool.{and_parts}

abbrev pub all_below : (ℕ → Bool) → ℕ → Bool
all_below p zero = true
all_below p (suc n) = p n && all_below p n

either : (p : ℕ → Bool) (n x : ℕ) → p n ≡ true → (x < n → p x ≡ true) → (x ≡ n) ⊎ (x < n) → p x ≡ true
either p n x here before (inl e) = let P : ℕ → Type 0 = λ m. p m ≡ true in subst P (sym e) here
either p n x here before (inr lt) = before lt

pub passes_below : (p : ℕ → Bool) (n : ℕ) → all_below p n ≡ true → (x : ℕ) → x < n → p x ≡ true
passes_below p zero h x lt = absurd (omega arith)
passes_below p (suc n) h x lt =
    let parts = and_parts (p n) (all_below p n) h in
    either p n x parts.0 (λ lower. passes_below p n parts.1 x lower) (eq-or-lt_of_le (omega arith))
