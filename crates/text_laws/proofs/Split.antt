-- A text of lines falls into these lines, and a line of words into these words.
use Rattle.std.proofs.Common.{◌≡◌, ℕ, ◌-◌, ◌≤◌, Bool, true, false, cond, zero, suc, List, [], ◌∷◌, ◌++◌, length, get_or, refl, ap, ◌∙◌, arith, append_assoc}
use Rattle.std.specs.Prelude.{◌&&◌, not, nat_le, ◌==◌, flat_map, filter, map, Result, Ok, Err, if◌then◌else◌}
use Rattle.std.specs.List.{list_all, slice_split, onto_first}
use Rattle.std.specs.Str.{is_utf8, IsAscii}
use Rattle.std.specs.Str.Lines.{lines, lines_of_parts, strip_carriage_return}
use Rattle.std.proofs.lemmas.Bool.{and_parts, and_from, leb-true, le-leb, eq-eqb, ne_eqb}
use Rattle.std.proofs.lemmas.List.Folds.{list_all-append}
use Rattle.std.proofs.lemmas.Str.{is_utf8-from_IsUtf8, IsUtf8-from_ascii}
use Rattle.std.proofs.lemmas.Str.Ascii.{IsAscii-nil, IsAscii-cons}
use Rattle.scen_text.specs.declared.cause.Cause.{Cause}
use Rattle.scen_text.specs.declared.cause.Cause.TheVariants.{NotUtf8}
use Rattle.scen_text.specs.declared.line.Line.{Line}
use Rattle.scen_text.specs.declared.line.Line.TheVariants.{Blank}
use Rattle.scen_text.specs.Meaning.{is_remark, line_meant, meaning}
use Rattle.scen_text.specs.Words.{has_bytes, words}

abbrev pub is_word_byte : ℕ → Bool
is_word_byte b = nat_le 33 b && nat_le b 126

abbrev pub is_line_byte : ℕ → Bool
is_line_byte b = nat_le 32 b && nat_le b 126

abbrev pub is_word : List ℕ → Bool
is_word w = has_bytes w && list_all is_word_byte w

-- the words, with one space between them
abbrev pub spaced : List (List ℕ) → List ℕ
spaced [] = []
spaced (w ∷ []) = w
spaced (w ∷ next ∷ more) = w ++ 32 ∷ spaced (next ∷ more)

-- the text of these lines of words
abbrev pub text_of : List (List (List ℕ)) → List ℕ
text_of ls = flat_map (λ ws. spaced ws ++ 10 ∷ []) ls

-- the words make a line that is no remark
abbrev pub is_line : List (List ℕ) → Bool
is_line ws = list_all is_word ws && not (is_remark (spaced ws))

-- bytes

word_byte : (b : ℕ) → is_word_byte b ≡ true → (33 ≤ b) × (b ≤ 126)
word_byte b h = let p = and_parts (nat_le 33 b) (nat_le b 126) h in (leb-true 33 b p.0, leb-true b 126 p.1)

line_byte : (b : ℕ) → is_line_byte b ≡ true → (32 ≤ b) × (b ≤ 126)
line_byte b h = let p = and_parts (nat_le 32 b) (nat_le b 126) h in (leb-true 32 b p.0, leb-true b 126 p.1)

in_line : (b : ℕ) → is_word_byte b ≡ true → is_line_byte b ≡ true
in_line b h = let p = word_byte b h in and_from (nat_le 32 b) (nat_le b 126) (le-leb 32 b (omega (arith, p.0)))
    (le-leb b 126 p.1)

pub weaker : {A : Type 0} (p q : A → Bool) → ((x : A) → p x ≡ true → q x ≡ true) → (xs : List A) → list_all p xs ≡ true →
    list_all q xs ≡ true
weaker p q f [] h = refl
weaker p q f (x ∷ xs) h = let parts = and_parts (p x) (list_all p xs) h in
    and_from (q x) (list_all q xs) (f x parts.0) (weaker p q f xs parts.1)

pub both_all : {A : Type 0} (p : A → Bool) (xs ys : List A) → list_all p xs ≡ true → list_all p ys ≡ true →
    list_all p (xs ++ ys) ≡ true
both_all p xs ys h k = list_all-append p xs ys ∙ and_from (list_all p xs) (list_all p ys) h k

-- parts

-- a part ends at a byte that passes
front_part : (c : ℕ) (p : ℕ → Bool) (w rest : List ℕ) → ((b : ℕ) → p b ≡ true → (b == c) ≡ false) → list_all p w ≡ true
    → slice_split (λ b. b == c) (w ++ c ∷ rest) ≡ w ∷ slice_split (λ b. b == c) rest
front_part c p [] rest f h = cut (c == c) (eq-eqb c c refl)
  where
    cut : (t : Bool) → t ≡ true → cond t ([] ∷ slice_split (λ b. b == c) rest) (onto_first c (slice_split (λ b. b == c) rest))
        ≡ [] ∷ slice_split (λ b. b == c) rest
    cut true e = refl
    cut false e = cc
front_part c p (b ∷ w) rest f h =
    let parts = and_parts (p b) (list_all p w) h in
    rw (f b parts.0, front_part c p w rest f parts.1) refl

last_part : (c : ℕ) (p : ℕ → Bool) (w : List ℕ) → ((b : ℕ) → p b ≡ true → (b == c) ≡ false) → list_all p w ≡ true →
    slice_split (λ b. b == c) w ≡ w ∷ []
last_part c p [] f h = refl
last_part c p (b ∷ w) f h =
    let parts = and_parts (p b) (list_all p w) h in
    rw (f b parts.0, last_part c p w f parts.1) refl

-- words

no_space : (b : ℕ) → is_word_byte b ≡ true → (b == 32) ≡ false
no_space b h = let p = word_byte b h in ne_eqb b 32 (λ e. omega (arith, p.0))

split_words : (w : List ℕ) (ws : List (List ℕ)) → list_all is_word (w ∷ ws) ≡ true →
    slice_split (λ b. b == 32) (spaced (w ∷ ws)) ≡ w ∷ ws
split_words w [] h =
    let one = and_parts (has_bytes w) (list_all is_word_byte w) (and_parts (is_word w) true h).0 in
    last_part 32 is_word_byte w no_space one.1
split_words w (v ∷ ws) h =
    let parts = and_parts (is_word w) (list_all is_word (v ∷ ws)) h in
    let one = and_parts (has_bytes w) (list_all is_word_byte w) parts.0 in
    front_part 32 is_word_byte w (spaced (v ∷ ws)) no_space one.1 ∙ ap (λ more. w ∷ more) (split_words v ws parts.1)

all_kept : (ws : List (List ℕ)) → list_all is_word ws ≡ true → filter has_bytes ws ≡ ws
all_kept [] h = refl
all_kept (w ∷ ws) h =
    let parts = and_parts (is_word w) (list_all is_word ws) h in
    let one = and_parts (has_bytes w) (list_all is_word_byte w) parts.0 in
    rw (one.0, all_kept ws parts.1) refl

words-spaced : (ws : List (List ℕ)) → list_all is_word ws ≡ true → words (spaced ws) ≡ ws
words-spaced [] h = refl
words-spaced (w ∷ ws) h = ap (filter has_bytes) (split_words w ws h) ∙ all_kept (w ∷ ws) h

line_bytes : (ws : List (List ℕ)) → list_all is_word ws ≡ true → list_all is_line_byte (spaced ws) ≡ true
line_bytes [] h = refl
line_bytes (w ∷ []) h =
    let one = and_parts (has_bytes w) (list_all is_word_byte w) (and_parts (is_word w) true h).0 in
    weaker is_word_byte is_line_byte in_line w one.1
line_bytes (w ∷ v ∷ ws) h =
    let parts = and_parts (is_word w) (list_all is_word (v ∷ ws)) h in
    let one = and_parts (has_bytes w) (list_all is_word_byte w) parts.0 in
    both_all is_line_byte w (32 ∷ spaced (v ∷ ws)) (weaker is_word_byte is_line_byte in_line w one.1)
    (line_bytes (v ∷ ws) parts.1)

ascii_line : (bs : List ℕ) → list_all is_line_byte bs ≡ true → IsAscii bs
ascii_line [] h = IsAscii-nil
ascii_line (b ∷ bs) h =
    let parts = and_parts (is_line_byte b) (list_all is_line_byte bs) h in
    let p = line_byte b parts.0 in
    IsAscii-cons b bs (omega (arith, p.1)) (ascii_line bs parts.1)

-- what a line of words means
pub line_of-spaced : (f : ℕ) (ws : List (List ℕ)) → is_line ws ≡ true → line_meant f (spaced ws) ≡ meaning f ws
line_of-spaced f ws h =
    let parts = and_parts (list_all is_word ws) (not (is_remark (spaced ws))) h in
    let text : is_utf8 (spaced ws) ≡ true = is_utf8-from_IsUtf8 _ (IsUtf8-from_ascii _ (ascii_line _ (line_bytes ws parts.0)))
    in
    pick (is_utf8 (spaced ws)) (is_remark (spaced ws)) (Err NotUtf8) (Ok Blank) (meaning f (words (spaced ws))) text parts.1
    ∙ ap (meaning f) (words-spaced ws parts.0)
  where
    pick : (a b : Bool) (x y z : Result Line Cause) → a ≡ true → not b ≡ true → (if not a then x else (if b then y else z)) ≡ z
    pick true false x y z p q = refl
    pick true true x y z p q = cc
    pick false b x y z p q = cc

-- lines

no_feed : (b : ℕ) → is_line_byte b ≡ true → (b == 10) ≡ false
no_feed b h = let p = line_byte b h in ne_eqb b 10 (λ e. omega (arith, p.0))

split_lines : (ls : List (List (List ℕ))) → list_all is_line ls ≡ true → slice_split (λ b. b == 10) (text_of ls)
    ≡ map spaced ls ++ [] ∷ []
split_lines [] h = refl
split_lines (ws ∷ ls) h =
    let parts = and_parts (is_line ws) (list_all is_line ls) h in
    let one = and_parts (list_all is_word ws) (not (is_remark (spaced ws))) parts.0 in
    rw (append_assoc (spaced ws) (10 ∷ []) (text_of ls))
    (front_part 10 is_line_byte (spaced ws) (text_of ls) no_feed (line_bytes ws one.0)
    ∙ ap (λ more. spaced ws ∷ more) (split_lines ls parts.1))

no_return : (bs : List ℕ) (i : ℕ) → list_all is_line_byte bs ≡ true → (get_or bs i 0 == 13) ≡ false
no_return [] i h = refl
no_return (b ∷ bs) zero h =
    let p = line_byte b (and_parts (is_line_byte b) (list_all is_line_byte bs) h).0 in ne_eqb b 13 (λ e. omega (arith, p.0))
no_return (b ∷ bs) (suc i) h = no_return bs i (and_parts (is_line_byte b) (list_all is_line_byte bs) h).1

whole_line : (bs : List ℕ) → list_all is_line_byte bs ≡ true → strip_carriage_return bs ≡ bs
whole_line bs h = rw (no_return bs (length bs - 1) h) refl

join_parts : (ls : List (List (List ℕ))) → list_all is_line ls ≡ true → lines_of_parts (map spaced ls ++ [] ∷ [])
    ≡ map spaced ls
join_parts [] h = refl
join_parts (ws ∷ []) h =
    let one = and_parts (list_all is_word ws) (not (is_remark (spaced ws))) (and_parts (is_line ws) true h).0 in
    ap (λ line. line ∷ []) (whole_line (spaced ws) (line_bytes ws one.0))
join_parts (ws ∷ vs ∷ ls) h =
    let parts = and_parts (is_line ws) (list_all is_line (vs ∷ ls)) h in
    let one = and_parts (list_all is_word ws) (not (is_remark (spaced ws))) parts.0 in
    rw (whole_line (spaced ws) (line_bytes ws one.0)) (ap (λ more. spaced ws ∷ more) (join_parts (vs ∷ ls) parts.1))

pub lines-text_of : (ls : List (List (List ℕ))) → list_all is_line ls ≡ true → lines (text_of ls) ≡ map spaced ls
lines-text_of ls h = ap lines_of_parts (split_lines ls h) ∙ join_parts ls h
