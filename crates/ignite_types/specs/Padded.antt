-- A text kept in place, in a room of fixed size: behind the text's bytes the room is zero.
use Rattle.std.specs.Prelude.{◌≡◌, ℕ, ◌-◌, ◌≤◌, List, ◌++◌, length, take, replicate}
use Rattle.std.proofs.Common.{arith, ap, length-append}
use Rattle.std.proofs.lemmas.List.{length-take-le, length-replicate}
use Rattle.std.proofs.Math.Seq.{take-append_seam}

-- the bytes, and zeros behind them up to the room
abbrev pub padded : ℕ → List ℕ → List ℕ
padded room bytes = bytes ++ replicate (room - length bytes) 0

-- the first `len` bytes of the room are the text, and behind them it is zero
pub record IsPadded (room len : ℕ) (bytes : List ℕ) : Type 0 where
  pub fits : len ≤ room
  pub whole : length bytes ≡ room
  pub zeros : padded room (take len bytes) ≡ bytes

-- the length of the text is the one that is kept
pub length-text : (room len : ℕ) (bytes : List ℕ) → IsPadded room len bytes → length (take len bytes) ≡ len
length-text room len bytes h = length-take-le len bytes (omega (arith, h.fits, h.whole))

-- a text in a room of zeros
pub IsPadded-new : (room : ℕ) (text : List ℕ) → length text ≤ room → IsPadded room (length text) (padded room text)
IsPadded-new room text h = record {
  fits = h;
  whole = simp (length-append, length-replicate) (omega arith);
  zeros = ap (padded room) (take-append_seam text (replicate (room - length text) 0));
}
