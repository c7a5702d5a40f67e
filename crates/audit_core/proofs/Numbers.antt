-- What the parse of a numeral's text says of the definition.
use Rattle.std.proofs.Common.{◌≡◌, ◌<◌, ◌^◌, ◌&&◌, ℕ, Bool, true, false, nat_lt, List, length, None, Err, refl, arith, rules}
use Rattle.std.specs.List.{list_all}
use Rattle.std.specs.Str.Parse.{digits_value, ParsesUnsigned}
use Rattle.std.proofs.lemmas.Str.Parse.{IsDigitsTest, IsNumeralModel, numerals_by_value, parse_digits}
use Rattle.std.proofs.lemmas.Bool.Decides.{nat_tests}
use Rattle.audit_core.specs.Shape.{is_decimal, is_numeral, long_number}

are_digits : IsDigitsTest (λ ds. list_all is_decimal ds ≡ true)
are_digits = search rules

own : IsNumeralModel (λ ds. list_all is_decimal ds ≡ true) (digits_value 10)
own = numerals_by_value _ are_digits

both : (a b : Bool) → (a && b) ≡ true → (a ≡ true) × (b ≡ true)
both true true h = (refl, refl)
both true false h = cc
both false b h = cc

digits_in : (text : List ℕ) → is_numeral text ≡ true → (0 < length text) × (list_all is_decimal text ≡ true)
digits_in text is =
    let front = (both (nat_lt 0 (length text) && list_all is_decimal text) _ is).0 in
    let parts = both (nat_lt 0 (length text)) (list_all is_decimal text) front in
    (grind (arith, nat_tests, parts.0), parts.1)

-- a numeral that the parse refuses has more than 64 bits
pub numeral_refused : {E : Type 0} (text : List ℕ) (e : E) → is_numeral text ≡ true → ParsesUnsigned 64 10 text (Err e) →
    None ≡ long_number text
numeral_refused {E} text e is refused =
    let digits = digits_in text is in
    let large = parse_digits own {E = E} 64 text (Err e) refused digits.1 in
    go (nat_lt (digits_value 10 text) (2 ^ 64)) refl digits.0 large
  where
    go : (t : Bool) → nat_lt (digits_value 10 text) (2 ^ 64) ≡ t → 0 < length text →
        ((0 < length text) × (digits_value 10 text < 2 ^ 64) → ⊥) → None ≡ long_number text
    go true fits some large = absurd (large (some, grind (arith, nat_tests, fits)))
    go false fits some large = rw (is, fits) refl
