-- A count of faults, which goes up until it can go no further.
use Rattle.std.specs.Prelude.{◌≡◌, ℕ, ◌+◌, ◌-◌, ◌^◌, ◌<◌, ◌⊎◌, min}

-- where a count stands still
abbrev pub last_count : ℕ
last_count = 2 ^ 64 - 1

-- a fault was counted, or the count can go no further
abbrev pub Faulted : ℕ → ℕ → Type 0
Faulted old new = (old < new) ⊎ (new ≡ last_count)

-- a count after one more, which stands still at the last
abbrev pub next_count : ℕ → ℕ
next_count n = min (n + 1) last_count
