-- Histories as plain data: texts, changes, and maps in the byte order of their keys.
use Rattle.std.specs.Prelude.{Bool, List, Option, None, Some, false, true, nat_eq, ℕ}
use Rattle.std.specs.Cmp.Lexicographic.{pointwise, slice_cmp}
use Rattle.std.specs.Ordering.{nat_cmp, is_lt}
use Rattle.std.specs.declared.cmp.Ordering.{Ordering}

-- a text is the list of its bytes
abbrev pub Bytes : Type 0
Bytes = List ℕ

abbrev pub bytes_cmp : Bytes → Bytes → Ordering
bytes_cmp = slice_cmp nat_cmp

abbrev pub is_below : Bytes → Bytes → Bool
is_below a b = is_lt (bytes_cmp a b)

abbrev pub equal_bytes : Bytes → Bytes → Bool
equal_bytes a b = pointwise nat_eq a b

-- both are absent, or both are the same text
abbrev pub equal_values : Option Bytes → Option Bytes → Bool
equal_values None None = true
equal_values (Some a) (Some b) = equal_bytes a b
equal_values _ _ = false

-- a key, and a value or none
abbrev pub KeyChange : Type 0
KeyChange = Bytes × Option Bytes

-- a map: the list of its entries in the order of their keys
abbrev pub PlainEntries : Type 0
PlainEntries = List (Bytes × Bytes)
