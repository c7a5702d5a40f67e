-- What bytes are a key or a value, and the first fault of those that are none.
use Rattle.std.specs.Prelude.{ℕ, Bool, not, ◌||◌, ◌&&◌, nat_le, ◌==◌, nat_lt, List, length, position, Option, Some, None, Result, Ok, Err, if◌then◌else◌}
use Rattle.ignite_types.specs.declared.limits.TheConstants.{KEY_BYTES, VALUE_BYTES}
use Rattle.ignite_types.specs.declared.text.Form.{Form}
use Rattle.ignite_types.specs.declared.text.Form.TheVariants as form
use Rattle.ignite_types.specs.declared.text.Key.{Key}
use Rattle.ignite_types.specs.declared.text.TextFault.{TextFault}
use Rattle.ignite_types.specs.declared.text.TextFault.TheVariants.{Empty, TooLong, BadByte}

abbrev pub is_digit : ℕ → Bool
is_digit b = nat_le 48 b && nat_le b 57

abbrev pub is_letter : ℕ → Bool
is_letter b = (nat_le 65 b && nat_le b 90) || (nat_le 97 b && nat_le b 122)

-- letters, digits, `_`, `.` and `-`
abbrev pub is_key_byte : ℕ → Bool
is_key_byte b = is_letter b || is_digit b || (b == 95) || (b == 46) || (b == 45)

-- those of a key, and `+`, `:` and `/`
abbrev pub is_value_byte : ℕ → Bool
is_value_byte b = is_key_byte b || (b == 43) || (b == 58) || (b == 47)

abbrev pub allows : Form → ℕ → Bool
allows form.Key b = is_key_byte b
allows form.Value b = is_value_byte b

abbrev pub unless_bad : Option ℕ → List ℕ → Result (List ℕ) TextFault
unless_bad (Some place) bytes = Err (BadByte place)
unless_bad None bytes = Ok bytes

-- the place of the first byte that may not stand there
abbrev pub first_bad : (ℕ → Bool) → List ℕ → Option ℕ
first_bad allowed bytes = position (λ b. not (allowed b)) bytes

-- the bytes as a text of at most `room` bytes, or the first fault
abbrev pub text_of : ℕ → (ℕ → Bool) → List ℕ → Result (List ℕ) TextFault
text_of room allowed bytes =
    if length bytes == 0 then Err Empty else (if nat_lt room (length bytes) then Err TooLong else unless_bad
    (first_bad allowed bytes) bytes)

abbrev pub in_cache : ℕ → Result (List ℕ) TextFault → Result Key TextFault
in_cache cache (Ok text) = Ok (record { cache = cache; text = text })
in_cache cache (Err fault) = Err fault

-- the key of a cache with these bytes
abbrev pub key_of : ℕ → List ℕ → Result Key TextFault
key_of cache bytes = in_cache cache (text_of KEY_BYTES is_key_byte bytes)

-- the value with these bytes
abbrev pub value_of : List ℕ → Result (List ℕ) TextFault
value_of bytes = text_of VALUE_BYTES is_value_byte bytes
