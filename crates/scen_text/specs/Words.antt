-- The words of a line, and the numbers, names, keys and values that words are. A word past its limit, of bytes that may
-- stand there, is read as nothing.
use Rattle.std.specs.Prelude.{ℕ, ℤ, pos, negsuc, ◌-◌, Bool, true, false, ◌&&◌, ◌||◌, not, nat_le, nat_lt, ◌==◌, List, [], ◌∷◌, length, filter, codes, bytes_eq, Option, Some, None, Result, Ok, Err, if◌then◌else◌}
use Rattle.std.specs.List.{slice_split, list_all, position_or_len, before_first, after_first}
use Rattle.std.specs.Str.Parse.{digits_value}
use Rattle.ignite_types.specs.Texts.{is_digit, is_key_byte, is_value_byte, key_of, value_of}
use Rattle.ignite_types.specs.Good.{is_name_byte}
use Rattle.ignite_types.specs.declared.limits.TheConstants.{NAME_BYTES}
use Rattle.ignite_types.specs.declared.text.Key.{Key}
use Rattle.ignite_types.specs.declared.text.TextFault.{TextFault}
use Rattle.ignite_types.specs.declared.text.TextFault.TheVariants as text
use Rattle.scen_text.specs.declared.cause.Cause.{Cause}
use Rattle.scen_text.specs.declared.cause.Cause.TheVariants.{Syntax}
use Rattle.scen_text.specs.Causes.{◌>>=◌}

abbrev pub has_bytes : List ℕ → Bool
has_bytes [] = false
has_bytes (byte ∷ bytes) = true

-- the words of a line: the parts between its spaces that are not empty
abbrev pub words : List ℕ → List (List ℕ)
words line = filter has_bytes (slice_split (λ byte. byte == 32) line)

abbrev pub begins_with_space : List ℕ → Bool
begins_with_space [] = false
begins_with_space (byte ∷ bytes) = byte == 32

-- the one word there is
abbrev pub only_word : List (List ℕ) → Result (List ℕ) Cause
only_word (word ∷ []) = Ok word
only_word _ = Err Syntax

-- the two words there are
abbrev pub two_words : List (List ℕ) → Result (List ℕ × List ℕ) Cause
two_words (first ∷ second ∷ []) = Ok (first, second)
two_words _ = Err Syntax

-- the four words there are
abbrev pub four_words : List (List ℕ) → Result (List ℕ × List ℕ × List ℕ × List ℕ) Cause
four_words (first ∷ second ∷ third ∷ fourth ∷ []) = Ok (first, second, third, fourth)
four_words _ = Err Syntax

-- decimal digits, at least one and at most 7
abbrev pub is_number_word : List ℕ → Bool
is_number_word word = not (length word == 0) && nat_le (length word) 7 && list_all is_digit word

abbrev pub number_of_word : List ℕ → Result ℕ Cause
number_of_word word = if is_number_word word then Ok (digits_value 10 word) else Err Syntax

-- letters and digits, at least one, at most 16 of them to fit
abbrev pub name : List ℕ → Result (Option (List ℕ)) Cause
name word =
    if (length word == 0) || not (list_all is_name_byte word) then Err Syntax else
    (if nat_le (length word) NAME_BYTES then Ok (Some word) else Ok None)

-- the name of a data object, in cache 0 for now
abbrev pub object : List ℕ → Result (Option Key) Cause
object word =
    if (length word == 0) || not (list_all is_name_byte word) then Err Syntax
    else (if nat_le (length word) NAME_BYTES then Ok (Some (record { cache = 0; text = word })) else Ok None)

-- what a text of this form was read as
abbrev pub fitting : {A : Type 0} → Bool → Result A TextFault → Result (Option A) Cause
fitting formed (Ok x) = Ok (Some x)
fitting true (Err text.TooLong) = Ok None
fitting formed (Err fault) = Err Syntax

-- the key, in cache 0 for now
abbrev pub key_of_word : List ℕ → Result (Option Key) Cause
key_of_word word = fitting (list_all is_key_byte word) (key_of 0 word)

abbrev pub value_of_word : List ℕ → Result (Option (List ℕ)) Cause
value_of_word word = fitting (list_all is_value_byte word) (value_of word)

abbrev pub is_slash : ℕ → Bool
is_slash byte = byte == 47

-- what stands before the first slash of a word, and what stands behind it
abbrev pub at_slash : List ℕ → Result (List ℕ × List ℕ) Cause
at_slash word =
    if nat_lt (position_or_len is_slash word) (length word) then Ok (before_first is_slash word, after_first is_slash word)
    else Err Syntax

-- digits with no 0 in front, at most the 19 that the greatest integer has
abbrev pub is_natural_word : List ℕ → Bool
is_natural_word [] = false
is_natural_word (first ∷ more) = not (first == 48) && nat_le (length (first ∷ more)) 19 && list_all is_digit (first ∷ more)

-- the number from 1 to `most` that they spell
abbrev pub natural_of_word : ℕ → List ℕ → Result ℕ Cause
natural_of_word most word =
    if not (is_natural_word word) then Err Syntax else
    (if nat_le (digits_value 10 word) most then Ok (digits_value 10 word) else Err Syntax)

-- as far below 0 as the number is above
abbrev pub negated : ℕ → ℤ
negated n = if n == 0 then pos 0 else negsuc (n - 1)

-- `0`, or a number from 1 on, with a `-` in front if it is below 0, of 64 bits
abbrev pub integer : List ℕ → Result ℤ Cause
integer [] = Err Syntax
integer (first ∷ digits) =
    if bytes_eq (first ∷ digits) (codes "0") then Ok (pos 0)
    else (if first == 45 then (natural_of_word 9223372036854775808 digits >>= λ n. Ok (negated n))
    else (natural_of_word 9223372036854775807 (first ∷ digits) >>= λ n. Ok (pos n)))
