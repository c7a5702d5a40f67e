-- The first line of a text, and the first word of a line.
use Rattle.std.proofs.Common.{◌≡◌, ℕ, ◌+◌, ◌<◌, ◌≤◌, Bool, true, false, zero, suc, List, [], ◌∷◌, length, take, refl, arith}
use Rattle.std.specs.Prelude.{◌==◌, ltb, position, Some, None}
use Rattle.std.proofs.lemmas.Option.{cond_some}
use Rattle.std.specs.List.{slice_split, position_or_len, before_first, after_first}
use Rattle.std.specs.Str.Lines.{lines, lines_of_parts, strip_carriage_return}
use Rattle.std.proofs.lemmas.Bool.{cond-true, cond-false, ne_eqb, ltb-true, ltb-false}
use Rattle.std.proofs.lemmas.List.Splits.{slice_split_first, length-slice_split}
use Rattle.scen_text.specs.Words.{begins_with_space, has_bytes, words}

abbrev pub is_feed : ℕ → Bool
is_feed byte = byte == 10

abbrev pub is_space : ℕ → Bool
is_space byte = byte == 32

-- what a place says of the first element that passes
pub place_none : (p : ℕ → Bool) (xs : List ℕ) → position p xs ≡ None → length xs ≤ position_or_len p xs
place_none p xs h =
    elim (ltb (position_or_len p xs) (length xs)) as (λ r. ltb (position_or_len p xs) (length xs) ≡ r →
    length xs ≤ position_or_len p xs) [
      | true ↦ λ e. absurd (let g : Some (position_or_len p xs) ≡ None = rw e at h in cc)
      | false ↦ λ e. ltb-false _ _ e
    ] refl

pub place_some : (p : ℕ → Bool) (xs : List ℕ) (n : ℕ) → position p xs ≡ Some n → (position_or_len p xs < length xs)
    × (position_or_len p xs ≡ n)
place_some p xs n h =
    let parts = cond_some (ltb (position_or_len p xs) (length xs)) (position_or_len p xs) n h in
    (ltb-true _ _ parts.0, parts.1)

-- the same of a list of anything
pub place_some_of : {A : Type 0} (p : A → Bool) (xs : List A) (n : ℕ) → position p xs ≡ Some n →
    (position_or_len p xs < length xs) × (position_or_len p xs ≡ n)
place_some_of p xs n h =
    let parts = cond_some (ltb (position_or_len p xs) (length xs)) (position_or_len p xs) n h in
    (ltb-true _ _ parts.0, parts.1)

-- where no element passes the test, the list is the one part
pub split_whole : (p : ℕ → Bool) (xs : List ℕ) → length xs ≤ position_or_len p xs → slice_split p xs ≡ xs ∷ []
split_whole p [] h = refl
split_whole p (x ∷ xs) h =
    elim (p x) as (λ r. p x ≡ r → slice_split p (x ∷ xs) ≡ (x ∷ xs) ∷ []) [
      | true ↦ λ e. absurd (let g : length (x ∷ xs) ≤ 0 = rw e at h in omega arith)
      | false ↦ λ e. let g : length (x ∷ xs) ≤ 1 + position_or_len p xs = rw e at h in
          rw e (rw (split_whole p xs (omega arith)) refl)
    ] refl

-- behind a part comes another one
next_part : (line : List ℕ) (parts : List (List ℕ)) → 0 < length parts →
    lines_of_parts (line ∷ parts) ≡ strip_carriage_return line ∷ lines_of_parts parts
next_part line [] h = absurd (omega arith)
next_part line (part ∷ more) h = refl

pub lines_first : (text : List ℕ) → position_or_len is_feed text < length text →
    lines text ≡ strip_carriage_return (before_first is_feed text) ∷ lines (after_first is_feed text)
lines_first text h =
    rw (slice_split_first is_feed text 0 h)
    (next_part (before_first is_feed text) (slice_split is_feed (after_first is_feed text))
    (omega (arith, length-slice_split is_feed (after_first is_feed text))))

one_part : (line : List ℕ) → 0 < length line → lines_of_parts (line ∷ []) ≡ line ∷ []
one_part line h = cond-false (length line == 0) [] (line ∷ []) (ne_eqb (length line) 0 (λ e. omega arith))

pub lines_last : (text : List ℕ) → 0 < length text → length text ≤ position_or_len is_feed text → lines text ≡ text ∷ []
lines_last text n h = rw (split_whole is_feed text h) (one_part text n)

bytes_in_take : (n : ℕ) (xs : List ℕ) → 0 < n → 0 < length xs → has_bytes (take n xs) ≡ true
bytes_in_take zero xs n l = absurd (omega arith)
bytes_in_take (suc n) [] p l = absurd (omega arith)
bytes_in_take (suc n) (x ∷ xs) p l = refl

pub words_first : (line : List ℕ) → begins_with_space line ≡ false → position_or_len is_space line < length line →
    words line ≡ before_first is_space line ∷ words (after_first is_space line)
words_first [] s h = absurd (omega arith)
words_first (b ∷ bs) s h =
    let place : position_or_len is_space (b ∷ bs) ≡ 1 + position_or_len is_space bs = rw s refl in
    rw (slice_split_first is_space (b ∷ bs) 0 h)
    (cond-true _ _ _ (bytes_in_take (position_or_len is_space (b ∷ bs)) (b ∷ bs) (omega arith) (omega arith)))

pub words_last : (line : List ℕ) → 0 < length line → length line ≤ position_or_len is_space line → words line ≡ line ∷ []
words_last [] n h = absurd (omega arith)
words_last (b ∷ bs) n h = rw (split_whole is_space (b ∷ bs) h) refl
