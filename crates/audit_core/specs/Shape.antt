-- When a JSON value is a history.
use Rattle.std.specs.Prelude.{Bool, List, Option, None, Some, [], ◌∷◌, ◌&&◌, ◌||◌, ◌==◌, ◌^◌, codes, false, true, if◌then◌else◌, is_some, length, nat_le, nat_lt, not, option_map, ℕ, ◌+◌}
use Rattle.std.specs.List.{list_all, list_any, before_first, after_first}
use Rattle.std.specs.Str.Parse.{digits_value}
use Rattle.ignite_types.specs.declared.names.TopVer.{TopVer}
use Rattle.serde_json.specs.Data.{Data, Items, Members, item, member, no_items, no_members, null}
use Rattle.serde_json.specs.Find.{as_array, as_object, as_str, get}
use Rattle.audit_core.specs.Histories.{Bytes, KeyChange, is_below}
use Rattle.audit_core.specs.declared.history.HistoryEntry.{HistoryEntry}
use Rattle.audit_core.specs.declared.history.History.{History}

-- a step after one that may find no shape
infixl 10 ◌>>=◌
abbrev pub ◌>>=◌ : {A B : Type 0} → Option A → (A → Option B) → Option B
None >>= next = None
(Some x) >>= next = next x

-- x, where the test holds
abbrev pub only_if : {A : Type 0} → Bool → A → Option A
only_if true x = Some x
only_if false x = None

-- ---- parts of values

abbrev pub members_count : Members → ℕ
members_count no_members = 0
members_count (member name d ms) = members_count ms + 1

abbrev pub count_is : ℕ → Option Members → Bool
count_is n None = false
count_is n (Some ms) = members_count ms == n

-- an object with so many members
abbrev pub has_members : ℕ → Data → Bool
has_members n d = count_is n (as_object d)

abbrev pub both_items : Items → Option (Data × Data)
both_items (item a (item b no_items)) = Some (a, b)
both_items _ = None

-- the two items of a list that has just two
abbrev pub two_items : Data → Option (Data × Data)
two_items d = as_array d >>= both_items

-- each item as `f` reads it
abbrev pub each : {A : Type 0} → (Data → Option A) → Items → Option (List A)
each f no_items = Some []
each f (item d ds) = do
  x ← f d
  xs ← each f ds
  Some (x ∷ xs)

-- a text with at least one byte
abbrev pub long_text : Data → Option Bytes
long_text d = do
  text ← as_str d
  only_if (nat_lt 0 (length text)) text

-- a text, or null for a value that is absent or was removed
abbrev pub value_or_null : Data → Option (Option Bytes)
value_or_null null = Some None
value_or_null d = option_map Some (as_str d)

-- ---- versions: `46` is the dot and `48` the digit 0

abbrev pub is_decimal : ℕ → Bool
is_decimal b = nat_le 48 b && nat_le b 57

abbrev pub starts_with_zero : Bytes → Bool
starts_with_zero [] = false
starts_with_zero (b ∷ bs) = b == 48

-- digits, with no 0 before another
abbrev pub is_numeral : Bytes → Bool
is_numeral text = nat_lt 0 (length text) && list_all is_decimal text && (length text == 1 || not (starts_with_zero text))

-- the number of 64 bits
abbrev pub long_number : Bytes → Option ℕ
long_number text = only_if (is_numeral text && nat_lt (digits_value 10 text) (2 ^ 64)) (digits_value 10 text)

abbrev pub is_dot : ℕ → Bool
is_dot b = b == 46

-- the numbers before and behind the first dot
abbrev pub version_parts : Bytes → Option TopVer
version_parts text = do
  major ← long_number (before_first is_dot text)
  minor ← long_number (after_first is_dot text)
  Some (record { major = major; minor = minor })

-- `MAJOR.MINOR`
abbrev pub printed_version_of : Bytes → Option TopVer
printed_version_of text = if list_any is_dot text then version_parts text else None

-- the version that a value spells
abbrev pub version_at : Data → Option TopVer
version_at d = as_str d >>= printed_version_of

-- ---- changes

abbrev pub change_from : Data × Data → Option KeyChange
change_from pair = do
  key ← long_text pair.0
  value ← value_or_null pair.1
  Some (key, value)

-- `["KEY","VALUE"]` or `["KEY",null]`
abbrev pub change_of : Data → Option KeyChange
change_of d = two_items d >>= change_from

-- the keys ascend, the first of them from above this text
abbrev pub ascend_from : Bytes → List KeyChange → Bool
ascend_from last [] = true
ascend_from last (c ∷ cs) = is_below last c.0 && ascend_from c.0 cs

-- changes whose keys strictly ascend by their bytes; each key is above the empty text
abbrev pub changes_of : Data → Option (List KeyChange)
changes_of d = do
  items ← as_array d
  changes ← each change_of items
  only_if (ascend_from [] changes) changes

-- ---- the history

-- an object with just the members `reads`, `top`, `tx` and `writes`
abbrev pub printed_entry_of : Data → Option HistoryEntry
printed_entry_of d = do
  reads ← get (codes "reads") d >>= changes_of
  top ← get (codes "top") d >>= version_at
  tx ← get (codes "tx") d >>= long_text
  writes ← get (codes "writes") d >>= changes_of
  only_if (has_members 4 d) (record { reads = reads; top = top; tx = tx; writes = writes })

-- changes none of which is null
abbrev pub present_only : List KeyChange → Option (List KeyChange)
present_only changes = only_if (list_all (λ c. is_some c.1) changes) changes

-- pairs of a key and its value
abbrev pub printed_map_of : Data → Option (List KeyChange)
printed_map_of d = changes_of d >>= present_only

-- an object with just the members `history` and `map`
abbrev pub history_of : Data → Option History
history_of d = do
  entries ← get (codes "history") d >>= as_array >>= each printed_entry_of
  map ← get (codes "map") d >>= printed_map_of
  only_if (has_members 2 d) (record { entries = entries; map = map })
