-- The text of a number may be a value.
use Rattle.std.proofs.Common.{◌≡◌, ℕ, ◌+◌, ◌%◌, ◌^◌, ◌<◌, ◌≤◌, true, suc, List, [], ◌∷◌, ◌++◌, length, refl, arith, length-append, eq-eqb}
use Rattle.std.specs.Prelude.{not, Ok, ℤ, pos, negsuc, decimal}
use Rattle.std.specs.Fmt.{signed_decimal}
use Rattle.std.specs.List.{prefix_len}
use Rattle.std.proofs.lemmas.Bool.Decides.{nat_tests}
use Rattle.std.proofs.lemmas.Fmt.{decimal_by_steps, decimal_nonempty, length-decimal-le}
use Rattle.std.proofs.lemmas.List.Folds.{prefix_len-append}
use Rattle.ignite_types.specs.Texts.{is_value_byte, value_of}
use lib.Signed.{mag}

abbrev allowed : List ℕ → ℕ
allowed bs = prefix_len (λ b. not (not (is_value_byte b))) bs

digit_allowed : (n : ℕ) → n < 10 → is_value_byte (48 + n) ≡ true
digit_allowed n h = grind (arith, nat_tests)

decimal_allowed : (n : ℕ) → n < 2 ^ 64 → allowed (decimal n) ≡ length (decimal n)
decimal_allowed = decimal_by_steps (λ n ds. allowed ds ≡ length ds)
    (λ n h. rw (digit_allowed n h) refl)
    (λ n ds l h. more ds (n % 10) (omega arith) h)
  where
    more : (ds : List ℕ) (last : ℕ) → last < 10 → allowed ds ≡ length ds →
        allowed (ds ++ (48 + last) ∷ []) ≡ length (ds ++ (48 + last) ∷ [])
    more ds last h all =
        let same = eq-eqb (allowed ds) (length ds) all in
        let one : allowed ((48 + last) ∷ []) ≡ 1 = rw (digit_allowed last h) refl in
        rw (prefix_len-append, same) (omega (arith, one, length-append ds ((48 + last) ∷ [])))

text_read : (bs : List ℕ) → 0 < length bs → length bs ≤ 64 → allowed bs ≡ length bs → value_of bs ≡ Ok bs
text_read bs some few all = grind (arith, nat_tests)

-- a number of 64 bits is written as a value
pub number_read : (z : ℤ) → mag z < 2 ^ 63 → value_of (signed_decimal z) ≡ Ok (signed_decimal z)
number_read (pos n) h =
    text_read (decimal n) (decimal_nonempty n (omega arith))
    (omega (arith, length-decimal-le 20 n (omega arith) (omega arith) (omega arith))) (decimal_allowed n (omega arith))
number_read (negsuc n) h =
    text_read (45 ∷ decimal (suc n)) (omega arith)
    (omega (arith, length-decimal-le 20 (suc n) (omega arith) (omega arith) (omega arith)))
    (omega (arith, decimal_allowed (suc n) (omega arith)))
