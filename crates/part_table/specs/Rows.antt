-- A row of slots whose values are taken out one after another, the last slot's first.
use Rattle.std.specs.Prelude.{◌≡◌, ℕ, ◌+◌, ◌<◌, ◌≤◌, Bool, true, false, slice_index_or}
use Rattle.std.specs.Slots.{slots_items, slots_filled, slots_len}
use Rattle.atomic_table.specs.declared.owned.Closed.{Closed}

-- whether the slot k has its value still
abbrev pub is_there : {X A : Type 0} → Closed X A → ℕ → Bool
is_there c k = slice_index_or (slots_filled c.slots) k false

-- nothing was taken out
abbrev pub IsWhole : {X A : Type 0} → Closed X A → Type 0
IsWhole c = (k : ℕ) → k < slots_len c.slots → is_there c k ≡ true

-- the slots below i and the last one were taken out, and the others were not
abbrev pub IsLeft : {X A : Type 0} → Closed X A → ℕ → Type 0
IsLeft c i = ((k : ℕ) → k < i → is_there c k ≡ false)
    × ((k : ℕ) → i ≤ k → k + 1 < slots_len c.slots → is_there c k ≡ true)
    × ((k : ℕ) → k + 1 ≡ slots_len c.slots → is_there c k ≡ false)

-- the row is as it was, but for what was taken out
abbrev pub IsSameRow : {X A : Type 0} → Closed X A → Closed X A → Type 0
IsSameRow a b = (slots_items b.slots ≡ slots_items a.slots) × (slots_len b.slots ≡ slots_len a.slots) × (b.words ≡ a.words)
