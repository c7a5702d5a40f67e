-- What the parse of a number's text says of the definition.
use Rattle.std.proofs.Common.{◌≡◌, ◌<◌, ◌≤◌, ◌^◌, ◌&&◌, ℕ, Bool, true, false, cond, nat_le, List, length, Some, None, Err, refl, arith, rules}
use Rattle.std.specs.List.{list_all}
use Rattle.std.specs.Str.Parse.{digits_value, ParsesUnsigned}
use Rattle.std.proofs.lemmas.Str.Parse.{IsDigitsTest, IsNumeralModel, numerals_by_value, parse_digits}
use Rattle.std.proofs.lemmas.Bool.Decides.{nat_tests}
use Rattle.command_words.specs.Line.{is_digit_byte, is_number_text, number_in_range}

are_digits : IsDigitsTest (λ ds. list_all is_digit_byte ds ≡ true)
are_digits = search rules

own : IsNumeralModel (λ ds. list_all is_digit_byte ds ≡ true) (digits_value 10)
own = numerals_by_value _ are_digits

both : (a b : Bool) → (a && b) ≡ true → (a ≡ true) × (b ≡ true)
both true true h = (refl, refl)
both true false h = cc
both false b h = cc

-- a text of digits that the parse refuses is no number of 64 bits
pub refused_number : {E : Type 0} (least most : ℕ) (text : List ℕ) (e : E) → is_number_text text ≡ true → most < 2 ^ 64 →
    ParsesUnsigned 64 10 text (Err e) → None ≡ number_in_range least most text
refused_number {E} least most text e is fits refused =
    let parts = both (nat_le 1 (length text)) _ is in
    let digits = (both (nat_le (length text) 20) _ parts.1).1 in
    let some : 0 < length text = grind (arith, nat_tests, parts.0) in
    let large = parse_digits own {E = E} 64 text (Err e) refused digits in
    go (nat_le (digits_value 10 text) most) refl some large
  where
    go : (t : Bool) → nat_le (digits_value 10 text) most ≡ t → 0 < length text →
        ((0 < length text) × (digits_value 10 text < 2 ^ 64) → ⊥) → None ≡ number_in_range least most text
    go true fit some large =
        let low : digits_value 10 text ≤ most = grind (arith, nat_tests, fit) in
        absurd (large (some, omega arith))
    go false fit some large = last (is_number_text text) (nat_le least (digits_value 10 text))
        (nat_le (digits_value 10 text) most) fit
      where
        last : (a b c : Bool) → c ≡ false → None ≡ cond (a && (b && c)) (Some (digits_value 10 text)) None
        last true true c h = rw h
        last true false c h = refl
        last false b c h = refl
