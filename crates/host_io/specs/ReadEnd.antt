-- What a read that ends with an error has taken, and how the error is told.
use Rattle.std.specs.Prelude.{◌≡◌, ℕ, ◌+◌, ◌≤◌, List, length, Option, codes}
use Rattle.std.specs.Io.KnownBytes.{prepend_known}
use Rattle.host_io.specs.declared.source.ReadEnd.{ReadEnd}
use Rattle.host_io.specs.declared.source.ReadEnd.TheVariants.{Fault, TooLong, NoMemory}

-- one byte past the limit came at TooLong, and else none did
abbrev pub CameBefore : ReadEnd → ℕ → List ℕ → Type 0
CameBefore Fault limit taken = length taken ≤ limit
CameBefore TooLong limit taken = length taken ≡ limit + 1
CameBefore NoMemory limit taken = length taken ≤ limit

-- the bytes that came before this end are gone, and the others are left
abbrev pub EndsEarly : ReadEnd → ℕ → Option (List ℕ) → Option (List ℕ) → Type 0
EndsEarly end limit old new = (taken : List ℕ) × CameBefore end limit taken × (old ≡ prepend_known taken new)

-- the words of an error
abbrev pub read_end_text : ReadEnd → List ℕ
read_end_text Fault = codes "a read failed"
read_end_text TooLong = codes "more bytes came than are allowed"
read_end_text NoMemory = codes "no memory is left"
