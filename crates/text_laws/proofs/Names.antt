-- A name, a key or a value that is printed is read as itself.
use Rattle.std.proofs.Common.{◌≡◌, ℕ, ◌+◌, ◌<◌, ◌≤◌, Bool, true, false, suc, List, [], ◌∷◌, ◌++◌, length, take, drop, refl, arith, length-append}
use Rattle.std.specs.Prelude.{not, nat_le, nat_lt, ◌==◌, Some, None, Ok}
use Rattle.std.specs.List.{list_all, position_or_len}
use Rattle.std.proofs.lemmas.Bool.{and_parts, and_from, leb-true, lt-ltb, le-ltb, le-leb, ne_eqb}
use Rattle.std.proofs.lemmas.Bool.Decides.{nat_tests}
use Rattle.std.proofs.lemmas.List.{take_at}
use Rattle.ignite_types.specs.Good.{is_name, is_name_byte, is_text, is_within}
use Rattle.ignite_types.specs.Texts.{is_key_byte, is_value_byte, first_bad, text_of}
use Rattle.scen_text.specs.Words.{at_slash, has_bytes, is_slash, key_of_word, name, object, value_of_word}
use Rattle.text_laws.proofs.Split.{is_word, is_word_byte, weaker, both_all}

-- what is known of a text of one form
pub record Formed (allowed : ℕ → Bool) (most : ℕ) (w : List ℕ) : Type 0 where
  pub some : 0 < length w
  pub few : length w ≤ most
  pub all : list_all allowed w ≡ true

pub formed : (allowed : ℕ → Bool) (most : ℕ) (w : List ℕ) → is_text allowed most w ≡ true → Formed allowed most w
formed allowed most w h =
    let outer = and_parts (is_within 1 most (length w)) (list_all allowed w) h in
    let inner = and_parts (nat_le 1 (length w)) (nat_le (length w) most) outer.0 in
    record { some = omega (arith, leb-true 1 (length w) inner.0); few = leb-true (length w) most inner.1; all = outer.1 }

-- bytes

value_word : (b : ℕ) → is_value_byte b ≡ true → is_word_byte b ≡ true
value_word b h = grind (arith, nat_tests)

key_value : (b : ℕ) → is_key_byte b ≡ true → is_value_byte b ≡ true
key_value b h = rw h refl

name_key : (b : ℕ) → is_name_byte b ≡ true → is_key_byte b ≡ true
name_key b h = rw h refl

pub value_words : (w : List ℕ) → list_all is_value_byte w ≡ true → list_all is_word_byte w ≡ true
value_words w h = weaker is_value_byte is_word_byte value_word w h

pub key_words : (w : List ℕ) → list_all is_key_byte w ≡ true → list_all is_word_byte w ≡ true
key_words w h = value_words w (weaker is_key_byte is_value_byte key_value w h)

pub name_words : (w : List ℕ) → list_all is_name_byte w ≡ true → list_all is_word_byte w ≡ true
name_words w h = key_words w (weaker is_name_byte is_key_byte name_key w h)

has_some : (w : List ℕ) → 0 < length w → has_bytes w ≡ true
has_some [] h = absurd (omega arith)
has_some (b ∷ w) h = refl

pub value-word : (w : List ℕ) → is_text is_value_byte 64 w ≡ true → is_word w ≡ true
value-word w h = let f = formed is_value_byte 64 w h in and_from (has_bytes w) _ (has_some w f.some) (value_words w f.all)

pub key-word : (w : List ℕ) → is_text is_key_byte 32 w ≡ true → is_word w ≡ true
key-word w h = let f = formed is_key_byte 32 w h in and_from (has_bytes w) _ (has_some w f.some) (key_words w f.all)

pub name-word : (w : List ℕ) → is_name w ≡ true → is_word w ≡ true
name-word w h = let f = formed is_name_byte 16 w h in and_from (has_bytes w) _ (has_some w f.some) (name_words w f.all)

has_front : (v w : List ℕ) → 0 < length v → has_bytes (v ++ w) ≡ true
has_front [] w h = absurd (omega arith)
has_front (b ∷ v) w h = refl

-- a name, a slash and a key
pub slashed-word : (v w : List ℕ) → is_name v ≡ true → list_all is_word_byte w ≡ true → is_word (v ++ 47 ∷ w) ≡ true
slashed-word v w h k =
    let f = formed is_name_byte 16 v h in
    and_from (has_bytes (v ++ 47 ∷ w)) _ (has_front v (47 ∷ w) f.some) (both_all is_word_byte v (47 ∷ w) (name_words v f.all) k)

-- names

pub name-read : (w : List ℕ) → is_name w ≡ true → name w ≡ Ok (Some w)
name-read w h =
    let f = formed is_name_byte 16 w h in
    let some : (length w == 0) ≡ false = ne_eqb (length w) 0 (λ e. omega (arith, f.some)) in
    let few : nat_le (length w) 16 ≡ true = le-leb (length w) 16 f.few in
    let all = f.all in
    rw (some, all) (rw few refl)

pub object-read : (w : List ℕ) → is_name w ≡ true → object w ≡ Ok (Some (record { cache = 0; text = w }))
object-read w h =
    let f = formed is_name_byte 16 w h in
    let some : (length w == 0) ≡ false = ne_eqb (length w) 0 (λ e. omega (arith, f.some)) in
    let few : nat_le (length w) 16 ≡ true = le-leb (length w) 16 f.few in
    let all = f.all in
    rw (some, all) (rw few refl)

-- keys and values

no_place : (allowed : ℕ → Bool) (w : List ℕ) → list_all allowed w ≡ true → position_or_len (λ b. not (allowed b)) w ≡ length w
no_place allowed [] h = refl
no_place allowed (b ∷ w) h =
    let parts = and_parts (allowed b) (list_all allowed w) h in
    rw parts.0 (rw (no_place allowed w parts.1) (omega arith))

none_bad : (allowed : ℕ → Bool) (w : List ℕ) → list_all allowed w ≡ true → first_bad allowed w ≡ None
none_bad allowed w h = rw (no_place allowed w h) (rw (le-ltb (length w) (length w) (omega arith)) refl)

text_read : (most : ℕ) (allowed : ℕ → Bool) (w : List ℕ) → Formed allowed most w → text_of most allowed w ≡ Ok w
text_read most allowed w f =
    let some : (length w == 0) ≡ false = ne_eqb (length w) 0 (λ e. omega (arith, f.some)) in
    let few : nat_lt most (length w) ≡ false = le-ltb most (length w) f.few in
    rw (some, few) (rw (none_bad allowed w f.all) refl)

pub key-read : (w : List ℕ) → is_text is_key_byte 32 w ≡ true → key_of_word w ≡ Ok (Some (record { cache = 0; text = w }))
key-read w h = rw (text_read 32 is_key_byte w (formed is_key_byte 32 w h)) refl

pub value-read : (w : List ℕ) → is_text is_value_byte 64 w ≡ true → value_of_word w ≡ Ok (Some w)
value-read w h = rw (text_read 64 is_value_byte w (formed is_value_byte 64 w h)) refl

-- a slash

no_slash : (b : ℕ) → is_name_byte b ≡ true → (b == 47) ≡ false
no_slash b h = grind (arith, nat_tests)

slash_place : (v w : List ℕ) → list_all is_name_byte v ≡ true → position_or_len is_slash (v ++ 47 ∷ w) ≡ length v
slash_place [] w h = refl
slash_place (b ∷ v) w h =
    let parts = and_parts (is_name_byte b) (list_all is_name_byte v) h in
    rw (no_slash b parts.0) (rw (slash_place v w parts.1) (omega arith))

length_past : (v w : List ℕ) → length v < length (v ++ 47 ∷ w)
length_past v w = omega (arith, length-append v (47 ∷ w))

pub slash-read : (v w : List ℕ) → is_name v ≡ true → at_slash (v ++ 47 ∷ w) ≡ Ok (v, w)
slash-read v w h =
    let f = formed is_name_byte 16 v h in
    let there : nat_lt (length v) (length (v ++ 47 ∷ w)) ≡ true = lt-ltb _ _ (length_past v w) in
    let front : take (length v) (v ++ 47 ∷ w) ≡ v = take_at v (47 ∷ w) (length v) refl in
    let behind : drop (length v + 1) (v ++ 47 ∷ w) ≡ w = cut v w in
    rw (slash_place v w f.all) (rw there (rw (front, behind) refl))
  where
    cut : (v w : List ℕ) → drop (length v + 1) (v ++ 47 ∷ w) ≡ w
    cut [] w = refl
    cut (b ∷ v) w = let e : suc (length v) + 1 ≡ suc (length v + 1) = omega arith in rw e (cut v w)
