-- Values that are numbers: their one form, and sums that stay in 64 bits.
use Rattle.std.specs.Fmt.{signed_decimal}
use Rattle.std.specs.List.{list_all}
use Rattle.std.specs.Option.{option_map}
use Rattle.std.specs.Prelude.{Bool, Err, None, Ok, Option, Result, Some, [], bytes_eq, codes, false, if◌then◌else◌, int_le, length, nat_le, negsuc, not, pos, ℕ, ℤ, ◌&&◌, ◌+ℤ◌, ◌-◌, ◌==◌, ◌∷◌}
use Rattle.std.specs.Str.Parse.{digits_value}
use Rattle.ignite_types.specs.Texts.{is_digit}
use Rattle.ignite_types.specs.declared.answer.Answer.{Answer}
use Rattle.ignite_types.specs.declared.list.List.{List}
use Rattle.ignite_types.specs.declared.answer.Answer.TheVariants as answer

-- digits with no 0 in front, at most the 19 that the greatest number has
abbrev pub is_natural : List ℕ → Bool
is_natural [] = false
is_natural (first ∷ more) = not (first == 48) && nat_le (length (first ∷ more)) 19 && list_all is_digit (first ∷ more)

-- the number from 1 to `most` that they spell
abbrev pub natural : ℕ → List ℕ → Option ℕ
natural most text =
    if not (is_natural text) then None else (if nat_le (digits_value 10 text) most then Some (digits_value 10 text) else None)

-- as far below 0 as the number is above
abbrev pub below_zero : ℕ → ℤ
below_zero n = if n == 0 then pos 0 else negsuc (n - 1)

-- the number of a value: `0`, or a digit 1 to 9 and further digits, with a `-` before it or not, in 64 bits
abbrev pub number_of : List ℕ → Option ℤ
number_of [] = None
number_of (first ∷ digits) =
    if bytes_eq (first ∷ digits) (codes "0") then Some (pos 0)
    else (if first == 45 then option_map below_zero (natural 9223372036854775808 digits)
    else option_map pos (natural 9223372036854775807 (first ∷ digits)))

abbrev pub fits_64 : ℤ → Bool
fits_64 z = int_le (negsuc 9223372036854775807) z && int_le z (pos 9223372036854775807)

-- the sum as a value, or why there is none
abbrev pub sum_in_64 : ℤ → Result (List ℕ) Answer
sum_in_64 z = if fits_64 z then Ok (signed_decimal z) else Err answer.Overflow

abbrev pub sum_with_number : Option ℤ → ℤ → Result (List ℕ) Answer
sum_with_number None i = Err answer.NotNumber
sum_with_number (Some n) i = sum_in_64 (n +ℤ i)

-- a number added to what is there; absent is 0
abbrev pub sum_with_value : Option (List ℕ) → ℤ → Result (List ℕ) Answer
sum_with_value None i = sum_in_64 i
sum_with_value (Some value) i = sum_with_number (number_of value) i
