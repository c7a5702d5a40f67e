-- What is known of a line by its words alone.
use Rattle.std.proofs.Common.{◌≡◌, ℕ, ◌+◌, ◌≤◌, Bool, true, false, List, [], ◌∷◌, length, refl, arith}
use Rattle.std.specs.Prelude.{◌&&◌, ◌||◌, not, bytes_eq, ◌==◌, nat_le, nat_lt, codes, Option, Some, None, Result, Ok, Err, ◌⊎◌}
use Rattle.std.specs.List.{list_all, position_or_len}
use Rattle.std.specs.Str.{is_utf8}
use Rattle.std.proofs.Common.{inl, inr}
use Rattle.std.proofs.lemmas.Bool.{cond_both, and_parts, and_from, eqb-false, ltb-false, le-leb, leb-true}
use Rattle.ignite_types.specs.Texts.{text_of, first_bad, unless_bad, in_cache, is_key_byte, is_value_byte}
use Rattle.ignite_types.specs.Good.{good_value, is_name, is_name_byte, is_text, is_within}
use Rattle.ignite_types.specs.declared.text.TextFault.{TextFault}
use Rattle.ignite_types.specs.declared.text.TextFault.TheVariants as text
use Rattle.ignite_types.specs.declared.text.Key.{Key}
use Rattle.ignite_types.specs.declared.scenario.Command.{Command}
use Rattle.ignite_types.specs.declared.scenario.Command.TheVariants as command
use Rattle.ignite_types.specs.declared.scenario.Step.{Step}
use Rattle.ignite_types.specs.declared.scenario.Step.TheVariants as steps
use Rattle.scen_text.specs.declared.keyword.Keyword.{Keyword}
use Rattle.scen_text.specs.declared.keyword.Keyword.TheVariants as keyword
use Rattle.scen_text.specs.declared.keyword.StepKeyword.{StepKeyword}
use Rattle.scen_text.specs.declared.keyword.StepKeyword.TheVariants as step
use Rattle.scen_text.specs.declared.line.KeyWords.{KeyWords}
use Rattle.scen_text.specs.declared.line.Line.{Line}
use Rattle.scen_text.specs.declared.line.Line.TheVariants as line
use Rattle.scen_text.specs.declared.line.Verb.{Verb}
use Rattle.scen_text.specs.declared.line.Verb.TheVariants as verb
use Rattle.scen_text.specs.declared.line.Setting.{Setting}
use Rattle.scen_text.specs.declared.line.Setting.TheVariants as setting
use Rattle.scen_text.specs.Forms.{cache_words, key_words, mode, node_of_word, object_words, role}
use Rattle.scen_text.specs.Keywords.{shared_keyword, command_keyword, first_keyword, second_keyword, or_else, keyword_of, step_keyword}
use Rattle.scen_text.specs.Meaning.{bare_line, begin_line, cache_line, format_of, head_line, is_remark, key_integer_line, key_line, key_value_line, known_line, line_meant, meaning, meant, member_line, object_integer_line, object_line, object_value_line, session_line_meant, setting_line, sleep_line, timeout}
use Rattle.scen_text.specs.Plans.{step_meant, step_or_syntax, plan_line}
use Rattle.scen_text.specs.Words as words
use Rattle.scen_text.specs.Words.{at_slash, fitting, integer, key_of_word, name, number_of_word, object, only_word, two_words, value_of_word}
use Rattle.scen_text.proofs.Cuts.{place_none}
use Rattle.scen_text.proofs.Holds.{Holds, then_holds, any_then}

-- what is known of a text that may be too long
abbrev pub If : {A : Type 0} → (A → Type 0) → Option A → Type 0
If P (Some x) = P x
If P None = Unit {0}

abbrev pub GoodName : Option (List ℕ) → Type 0
GoodName o = If (λ called. is_name called ≡ true) o

abbrev pub GoodText : Option Key → Type 0
GoodText o = If (λ k. is_text is_key_byte 32 k.text ≡ true) o

abbrev pub GoodObject : Option Key → Type 0
GoodObject o = If (λ k. is_name k.text ≡ true) o

abbrev pub GoodValue : Option (List ℕ) → Type 0
GoodValue o = If (λ v. good_value v ≡ true) o

-- a data command names an object, a plain command a key
abbrev pub GoodVerb : Verb → KeyWords → Type 0
GoodVerb verb.Get k = GoodText k.key
GoodVerb (verb.Put v) k = GoodText k.key × GoodValue v
GoodVerb verb.Remove k = GoodText k.key
GoodVerb (verb.Add n) k = GoodText k.key
GoodVerb (verb.Incr n) k = GoodObject k.key
GoodVerb verb.Next k = GoodObject k.key
GoodVerb (verb.Offer v) k = GoodObject k.key × GoodValue v
GoodVerb verb.Poll k = GoodObject k.key

-- a command without a key
abbrev pub is_bare : Command → Bool
is_bare (command.Begin m t) = true
is_bare command.Commit = true
is_bare command.Rollback = true
is_bare (command.Sleep m) = true
is_bare _ = false

-- a step that loses a node, or holds or releases a link
abbrev pub is_link : Step → Bool
is_link (steps.Lose n) = true
is_link (steps.Hold m n) = true
is_link (steps.Release m n) = true
is_link _ = false

abbrev pub GoodLine : ℕ → Line → Type 0
GoodLine format (line.Head f) = (f ≡ 1) ⊎ (f ≡ 2)
GoodLine format (line.Setting s n) = (format == 2) ≡ false
GoodLine format (line.Cache d words) = ((format == 2) ≡ true) × GoodName words.name
GoodLine format (line.Start m words) = ((format == 2) ≡ true) × GoodName words.name
GoodLine format (line.Links m s) = is_link s ≡ true
GoodLine format (line.Stop m called) = GoodName called
GoodLine format (line.Session called n) = GoodName called
GoodLine format (line.Bare c) = is_bare c ≡ true
GoodLine format (line.Keyed v k) = GoodVerb v k
GoodLine format _ = Unit {0}

-- texts

all_allowed : (allowed : ℕ → Bool) (xs : List ℕ) → length xs ≤ position_or_len (λ b. not (allowed b)) xs →
    list_all allowed xs ≡ true
all_allowed allowed [] h = refl
all_allowed allowed (x ∷ xs) h =
    elim (allowed x) as (λ r. allowed x ≡ r → list_all allowed (x ∷ xs) ≡ true) [
      | true ↦ λ e. let g : length (x ∷ xs) ≤ 1 + position_or_len (λ b. not (allowed b)) xs = rw e at h in
          rw e (all_allowed allowed xs (omega arith))
      | false ↦ λ e. absurd (let g : length (x ∷ xs) ≤ 0 = rw e at h in omega arith)
    ] refl

within_from : (least most n : ℕ) → least ≤ n → n ≤ most → is_within least most n ≡ true
within_from least most n a b = and_from (nat_le least n) (nat_le n most) (le-leb least n a) (le-leb n most b)

positive : (n : ℕ) → (n ≡ 0 → ⊥) → 1 ≤ n
positive n ne = omega arith

unbroken : (room : ℕ) (allowed : ℕ → Bool) (bytes : List ℕ) → is_within 1 room (length bytes) ≡ true → (o : Option ℕ) →
    first_bad allowed bytes ≡ o → Holds (λ t. is_text allowed room t ≡ true) (unless_bad o bytes)
unbroken room allowed bytes w (Some place) e = tt
unbroken room allowed bytes w None e =
    and_from (is_within 1 room (length bytes)) (list_all allowed bytes) w
    (all_allowed allowed bytes (place_none (λ b. not (allowed b)) bytes e))

text_of-good : (room : ℕ) (allowed : ℕ → Bool) (bytes : List ℕ) →
    Holds (λ t. is_text allowed room t ≡ true) (text_of room allowed bytes)
text_of-good room allowed bytes =
    cond_both (length bytes == 0) _ _ (Holds (λ t. is_text allowed room t ≡ true)) (λ e. tt)
    (λ some. cond_both (nat_lt room (length bytes)) _ _ (Holds (λ t. is_text allowed room t ≡ true)) (λ e. tt)
    (λ fits. unbroken room allowed bytes
    (within_from 1 room (length bytes) (positive (length bytes) (eqb-false _ _ some)) (ltb-false _ _ fits))
    (first_bad allowed bytes) refl))

fitting-good : {A : Type 0} (P : A → Type 0) (formed : Bool) (r : Result A TextFault) → Holds P r →
    Holds (If P) (fitting formed r)
fitting-good P formed (Ok x) h = h
fitting-good P true (Err text.TooLong) h = tt
fitting-good P false (Err text.TooLong) h = tt
fitting-good P true (Err text.Empty) h = tt
fitting-good P false (Err text.Empty) h = tt
fitting-good P true (Err (text.BadByte n)) h = tt
fitting-good P false (Err (text.BadByte n)) h = tt

key-good : (word : List ℕ) → Holds GoodText (key_of_word word)
key-good word = fitting-good (λ k. is_text is_key_byte 32 k.text ≡ true) (list_all is_key_byte word) _
    (in_first (text_of 32 is_key_byte word) (text_of-good 32 is_key_byte word))
  where
    in_first : (r : Result (List ℕ) TextFault) → Holds (λ t. is_text is_key_byte 32 t ≡ true) r →
        Holds (λ k. is_text is_key_byte 32 k.text ≡ true) (in_cache 0 r)
    in_first (Ok t) h = h
    in_first (Err e) h = tt

value-good : (word : List ℕ) → Holds GoodValue (value_of_word word)
value-good word = fitting-good (λ v. good_value v ≡ true) (list_all is_value_byte word) (text_of 64 is_value_byte word)
    (text_of-good 64 is_value_byte word)

named_from : (word : List ℕ) → ((length word == 0) || not (list_all is_name_byte word)) ≡ false →
    nat_le (length word) 16 ≡ true → is_name word ≡ true
named_from word form short =
    let apart = none (length word == 0) (list_all is_name_byte word) form in
    and_from (is_within 1 16 (length word)) (list_all is_name_byte word)
    (within_from 1 16 (length word) (positive (length word) (eqb-false _ _ apart.0)) (leb-true _ _ short))
    apart.1
  where
    none : (a b : Bool) → (a || not b) ≡ false → (a ≡ false) × (b ≡ true)
    none false true h = (refl, refl)
    none false false h = cc
    none true b h = cc

name-good : (word : List ℕ) → Holds GoodName (name word)
name-good word =
    cond_both ((length word == 0) || not (list_all is_name_byte word)) _ _ (Holds GoodName) (λ e. tt)
    (λ form. cond_both (nat_le (length word) 16) _ _ (Holds GoodName) (λ short. named_from word form short) (λ e. tt))

object-good : (word : List ℕ) → Holds GoodObject (object word)
object-good word =
    cond_both ((length word == 0) || not (list_all is_name_byte word)) _ _ (Holds GoodObject) (λ e. tt)
    (λ form. cond_both (nat_le (length word) 16) _ _ (Holds GoodObject) (λ short. named_from word form short) (λ e. tt))

-- keys

key_words-good : (format : ℕ) (word : List ℕ) → Holds (λ k. GoodText k.key) (key_words format word)
key_words-good format word =
    cond_both (format == 2) _ _ (Holds (λ k. GoodText k.key))
    (λ e. any_then (λ k. GoodText k.key) (at_slash word) _ (λ found. any_then (λ k. GoodText k.key) (name found.0) _ (λ cache.
    then_holds (λ k. GoodText k.key) GoodText (key_of_word found.1) _ (key-good found.1) (λ k h. h))))
    (λ e. then_holds (λ k. GoodText k.key) GoodText (key_of_word word) _ (key-good word) (λ k h. h))

object_words-good : (word : List ℕ) → Holds (λ k. GoodObject k.key) (object_words word)
object_words-good word =
    any_then (λ k. GoodObject k.key) (at_slash word) _ (λ found. any_then (λ k. GoodObject k.key) (name found.0) _ (λ cache.
    then_holds (λ k. GoodObject k.key) GoodObject (object found.1) _ (object-good found.1) (λ k h. h)))

cache_words-good : (rest : List (List ℕ)) → Holds (λ w. GoodName w.name) (cache_words rest)
cache_words-good rest =
    any_then (λ w. GoodName w.name) (words.four_words rest) _ (λ found.
    then_holds (λ w. GoodName w.name) GoodName (name found.0) _ (name-good found.0) (λ called h.
    any_then (λ w. GoodName w.name) (number_of_word found.1) _
    (λ parts. any_then (λ w. GoodName w.name) (number_of_word found.2) _ (λ backups.
    any_then (λ w. GoodName w.name) (number_of_word found.3) _ (λ near. h)))))

-- lines

head-good : (format : ℕ) (rest : List (List ℕ)) → Holds (GoodLine format) (head_line rest)
head-good format rest =
    any_then (GoodLine format) (only_word rest) _ (λ w. then_holds (GoodLine format) (λ f. (f ≡ 1) ⊎ (f ≡ 2)) (format_of w) _
    (of w) (λ f h. h))
  where
    of : (w : List ℕ) → Holds (λ f. (f ≡ 1) ⊎ (f ≡ 2)) (format_of w)
    of w = cond_both (bytes_eq w (codes "1")) _ _ (Holds (λ f. (f ≡ 1) ⊎ (f ≡ 2))) (λ e. inl refl)
        (λ e. cond_both (bytes_eq w (codes "2")) _ _ (Holds (λ f. (f ≡ 1) ⊎ (f ≡ 2))) (λ e. inr refl) (λ e. tt))

setting-good : (format : ℕ) (s : Setting) (rest : List (List ℕ)) → (format == 2) ≡ false →
    Holds (GoodLine format) (setting_line s rest)
setting-good format s rest h =
    any_then (GoodLine format) (only_word rest) _ (λ w. any_then (GoodLine format) (number_of_word w) _ (λ n. h))

cache-good : (format : ℕ) (d : Bool) (rest : List (List ℕ)) → (format == 2) ≡ true → Holds (GoodLine format) (cache_line d rest)
cache-good format d rest h = then_holds (GoodLine format) (λ w. GoodName w.name) (cache_words rest) _ (cache_words-good rest)
    (λ w g. (h, g))

member-good : (format : ℕ) (server : Bool) (rest : List (List ℕ)) → Holds (GoodLine format) (member_line server rest)
member-good format server rest =
    any_then (GoodLine format) (only_word rest) _ (λ w. any_then (GoodLine format) (node_of_word w) _ (λ n. tt))

session-good : (format : ℕ) (rest : List (List ℕ)) → Holds (GoodLine format) (session_line_meant rest)
session-good format rest =
    any_then (GoodLine format) (two_words rest) _ (λ w. then_holds (GoodLine format) GoodName (name w.0) _ (name-good w.0)
    (λ called h. any_then (GoodLine format) (node_of_word w.1) _ (λ n. h)))

begin-good : (format : ℕ) (rest : List (List ℕ)) → Holds (GoodLine format) (begin_line rest)
begin-good format [] = refl
begin-good format (w ∷ rest) =
    any_then (GoodLine format) (mode w) _ (λ m. any_then (GoodLine format) (timeout rest) _ (λ t. refl))

sleep-good : (format : ℕ) (rest : List (List ℕ)) → Holds (GoodLine format) (sleep_line rest)
sleep-good format rest =
    any_then (GoodLine format) (only_word rest) _ (λ w. any_then (GoodLine format) (number_of_word w) _ (λ n. refl))

bare-good : (format : ℕ) (l : Line) (rest : List (List ℕ)) → GoodLine format l → Holds (GoodLine format) (bare_line l rest)
bare-good format l [] h = h
bare-good format l (w ∷ rest) h = tt

key_line-good : (format : ℕ) (v : Verb) (rest : List (List ℕ)) → ((k : KeyWords) → GoodText k.key → GoodVerb v k) →
    Holds (GoodLine format) (key_line format v rest)
key_line-good format v rest f =
    any_then (GoodLine format) (only_word rest) _ (λ w.
    then_holds (GoodLine format) (λ k. GoodText k.key) (key_words format w) _ (key_words-good format w) (λ k h. f k h))

key_value-good : (format : ℕ) (rest : List (List ℕ)) → Holds (GoodLine format) (key_value_line format rest)
key_value-good format rest =
    any_then (GoodLine format) (two_words rest) _ (λ w.
    then_holds (GoodLine format) (λ k. GoodText k.key) (key_words format w.0) _ (key_words-good format w.0)
    (λ k h. then_holds (GoodLine format) GoodValue (value_of_word w.1) _ (value-good w.1) (λ v g. (h, g))))

key_integer-good : (format : ℕ) (rest : List (List ℕ)) → Holds (GoodLine format) (key_integer_line format rest)
key_integer-good format rest =
    any_then (GoodLine format) (two_words rest) _ (λ w.
    then_holds (GoodLine format) (λ k. GoodText k.key) (key_words format w.0) _ (key_words-good format w.0)
    (λ k h. any_then (GoodLine format) (integer w.1) _ (λ i. h)))

object_line-good : (format : ℕ) (v : Verb) (rest : List (List ℕ)) → ((k : KeyWords) → GoodObject k.key → GoodVerb v k) →
    Holds (GoodLine format) (object_line v rest)
object_line-good format v rest f =
    any_then (GoodLine format) (only_word rest) _ (λ w.
    then_holds (GoodLine format) (λ k. GoodObject k.key) (object_words w) _ (object_words-good w) (λ k h. f k h))

object_value-good : (format : ℕ) (rest : List (List ℕ)) → Holds (GoodLine format) (object_value_line rest)
object_value-good format rest =
    any_then (GoodLine format) (two_words rest) _ (λ w.
    then_holds (GoodLine format) (λ k. GoodObject k.key) (object_words w.0) _ (object_words-good w.0)
    (λ k h. then_holds (GoodLine format) GoodValue (value_of_word w.1) _ (value-good w.1) (λ v g. (h, g))))

object_integer-good : (format : ℕ) (rest : List (List ℕ)) → Holds (GoodLine format) (object_integer_line rest)
object_integer-good format rest =
    any_then (GoodLine format) (two_words rest) _ (λ w.
    then_holds (GoodLine format) (λ k. GoodObject k.key) (object_words w.0) _ (object_words-good w.0)
    (λ k h. any_then (GoodLine format) (integer w.1) _ (λ i. h)))

-- plan lines

-- caches are started in format 2 alone
abbrev pub FitsStep : ℕ → StepKeyword → Type 0
FitsStep format step.Start = (format == 2) ≡ true
FitsStep format _ = Unit {0}

fits-step_keyword : (format : ℕ) (word : List ℕ) → If (FitsStep format) (step_keyword format word)
fits-step_keyword format word =
    cond_both (bytes_eq word (codes "join")) _ _ (If (FitsStep format)) (λ e. tt)
    (λ e. cond_both (bytes_eq word (codes "lose")) _ _ (If (FitsStep format)) (λ e. tt)
    (λ e. cond_both (bytes_eq word (codes "hold")) _ _ (If (FitsStep format)) (λ e. tt)
    (λ e. cond_both (bytes_eq word (codes "release")) _ _ (If (FitsStep format)) (λ e. tt)
    (λ e. cond_both ((format == 2) && bytes_eq word (codes "start")) _ _ (If (FitsStep format))
    (λ e. (and_parts (format == 2) (bytes_eq word (codes "start")) e).0)
    (λ e. cond_both ((format == 2) && bytes_eq word (codes "stop")) _ _ (If (FitsStep format)) (λ e. tt) (λ e. tt))))))

step-good : (format moment : ℕ) (k : StepKeyword) (rest : List (List ℕ)) → FitsStep format k →
    Holds (GoodLine format) (step_meant moment k rest)
step-good format moment step.Join rest f =
    any_then (GoodLine format) (two_words rest) _ (λ w. any_then (GoodLine format) (node_of_word w.0) _
    (λ n. any_then (GoodLine format) (role w.1) _ (λ s. tt)))
step-good format moment step.Lose rest f =
    any_then (GoodLine format) (only_word rest) _ (λ w. any_then (GoodLine format) (node_of_word w) _ (λ n. refl))
step-good format moment step.Hold rest f =
    any_then (GoodLine format) (two_words rest) _ (λ w. any_then (GoodLine format) (node_of_word w.0) _
    (λ n. any_then (GoodLine format) (node_of_word w.1) _ (λ m. refl)))
step-good format moment step.Release rest f =
    any_then (GoodLine format) (two_words rest) _ (λ w. any_then (GoodLine format) (node_of_word w.0) _
    (λ n. any_then (GoodLine format) (node_of_word w.1) _ (λ m. refl)))
step-good format moment step.Start rest f = then_holds (GoodLine format) (λ w. GoodName w.name) (cache_words rest) _
    (cache_words-good rest) (λ w g. (f, g))
step-good format moment step.Stop rest f =
    any_then (GoodLine format) (only_word rest) _ (λ w. then_holds (GoodLine format) GoodName (name w) _ (name-good w)
    (λ called h. h))

plan-good : (format : ℕ) (rest : List (List ℕ)) → Holds (GoodLine format) (plan_line format rest)
plan-good format [] = tt
plan-good format (first ∷ []) = tt
plan-good format (first ∷ second ∷ rest) =
    any_then (GoodLine format) (number_of_word first) _ (λ moment. or_syntax moment (step_keyword format second)
    (fits-step_keyword format second))
  where
    or_syntax : (moment : ℕ) (o : Option StepKeyword) → If (FitsStep format) o →
        Holds (GoodLine format) (step_or_syntax moment o rest)
    or_syntax moment (Some k) f = step-good format moment k rest f
    or_syntax moment None f = tt

-- keywords

-- settings are of format 1, caches of format 2
abbrev pub FitsKeyword : ℕ → Keyword → Type 0
FitsKeyword format keyword.Parts = (format == 2) ≡ false
FitsKeyword format keyword.Backups = (format == 2) ≡ false
FitsKeyword format keyword.Near = (format == 2) ≡ false
FitsKeyword format keyword.Cache = (format == 2) ≡ true
FitsKeyword format keyword.Data = (format == 2) ≡ true
FitsKeyword format _ = Unit {0}

fits-first : (format : ℕ) (word : List ℕ) → (format == 2) ≡ false → If (FitsKeyword format) (first_keyword word)
fits-first format word h =
    cond_both (bytes_eq word (codes "parts")) _ _ (If (FitsKeyword format)) (λ e. h)
    (λ e. cond_both (bytes_eq word (codes "backups")) _ _ (If (FitsKeyword format)) (λ e. h)
    (λ e. cond_both (bytes_eq word (codes "near")) _ _ (If (FitsKeyword format)) (λ e. h)
    (λ e. tt)))

fits-second : (format : ℕ) (word : List ℕ) → (format == 2) ≡ true → If (FitsKeyword format) (second_keyword word)
fits-second format word h =
    cond_both (bytes_eq word (codes "cache")) _ _ (If (FitsKeyword format)) (λ e. h)
    (λ e. cond_both (bytes_eq word (codes "data")) _ _ (If (FitsKeyword format)) (λ e. h)
    (λ e. cond_both (bytes_eq word (codes "incr")) _ _ (If (FitsKeyword format)) (λ e. tt)
    (λ e. cond_both (bytes_eq word (codes "next")) _ _ (If (FitsKeyword format)) (λ e. tt)
    (λ e. cond_both (bytes_eq word (codes "offer")) _ _ (If (FitsKeyword format)) (λ e. tt)
    (λ e. cond_both (bytes_eq word (codes "poll")) _ _ (If (FitsKeyword format)) (λ e. tt)
    (λ e. tt))))))

fits-shared : (format : ℕ) (word : List ℕ) → If (FitsKeyword format) (shared_keyword word)
fits-shared format word =
    cond_both (bytes_eq word (codes "scenario")) _ _ (If (FitsKeyword format)) (λ e. tt)
    (λ e. cond_both (bytes_eq word (codes "server")) _ _ (If (FitsKeyword format)) (λ e. tt)
    (λ e. cond_both (bytes_eq word (codes "client")) _ _ (If (FitsKeyword format)) (λ e. tt)
    (λ e. cond_both (bytes_eq word (codes "plan")) _ _ (If (FitsKeyword format)) (λ e. tt)
    (λ e. cond_both (bytes_eq word (codes "session")) _ _ (If (FitsKeyword format)) (λ e. tt)
    (λ e. cond_both (bytes_eq word (codes "end")) _ _ (If (FitsKeyword format)) (λ e. tt)
    (λ e. tt))))))

fits-command : (format : ℕ) (word : List ℕ) → If (FitsKeyword format) (command_keyword word)
fits-command format word =
    cond_both (bytes_eq word (codes "begin")) _ _ (If (FitsKeyword format)) (λ e. tt)
    (λ e. cond_both (bytes_eq word (codes "get")) _ _ (If (FitsKeyword format)) (λ e. tt)
    (λ e. cond_both (bytes_eq word (codes "put")) _ _ (If (FitsKeyword format)) (λ e. tt)
    (λ e. cond_both (bytes_eq word (codes "remove")) _ _ (If (FitsKeyword format)) (λ e. tt)
    (λ e. cond_both (bytes_eq word (codes "add")) _ _ (If (FitsKeyword format)) (λ e. tt)
    (λ e. cond_both (bytes_eq word (codes "commit")) _ _ (If (FitsKeyword format)) (λ e. tt)
    (λ e. cond_both (bytes_eq word (codes "rollback")) _ _ (If (FitsKeyword format)) (λ e. tt)
    (λ e. cond_both (bytes_eq word (codes "sleep")) _ _ (If (FitsKeyword format)) (λ e. tt)
    (λ e. tt))))))))

fits-or : (format : ℕ) (a b : Option Keyword) → If (FitsKeyword format) a → If (FitsKeyword format) b →
    If (FitsKeyword format) (or_else a b)
fits-or format (Some k) b h g = h
fits-or format None b h g = g

fits-keyword : (format : ℕ) (word : List ℕ) → If (FitsKeyword format) (keyword_of format word)
fits-keyword format word =
    fits-or format (shared_keyword word) _ (fits-shared format word)
    (fits-or format (command_keyword word) _ (fits-command format word)
    (cond_both (format == 2) (second_keyword word) (first_keyword word) (If (FitsKeyword format))
    (λ e. fits-second format word e) (λ e. fits-first format word e)))

meant-good : (format : ℕ) (k : Keyword) (rest : List (List ℕ)) → FitsKeyword format k →
    Holds (GoodLine format) (meant format k rest)
meant-good format keyword.Scenario rest f = head-good format rest
meant-good format keyword.Parts rest f = setting-good format setting.Parts rest f
meant-good format keyword.Backups rest f = setting-good format setting.Backups rest f
meant-good format keyword.Near rest f = setting-good format setting.Near rest f
meant-good format keyword.Cache rest f = cache-good format false rest f
meant-good format keyword.Data rest f = cache-good format true rest f
meant-good format keyword.Server rest f = member-good format true rest
meant-good format keyword.Client rest f = member-good format false rest
meant-good format keyword.Plan rest f = plan-good format rest
meant-good format keyword.Session rest f = session-good format rest
meant-good format keyword.End rest f = bare-good format line.End rest tt
meant-good format keyword.Begin rest f = begin-good format rest
meant-good format keyword.Get rest f = key_line-good format verb.Get rest (λ k h. h)
meant-good format keyword.Put rest f = key_value-good format rest
meant-good format keyword.Remove rest f = key_line-good format verb.Remove rest (λ k h. h)
meant-good format keyword.Add rest f = key_integer-good format rest
meant-good format keyword.Commit rest f = bare-good format (line.Bare command.Commit) rest refl
meant-good format keyword.Rollback rest f = bare-good format (line.Bare command.Rollback) rest refl
meant-good format keyword.Sleep rest f = sleep-good format rest
meant-good format keyword.Incr rest f = object_integer-good format rest
meant-good format keyword.Next rest f = object_line-good format verb.Next rest (λ k h. h)
meant-good format keyword.Offer rest f = object_value-good format rest
meant-good format keyword.Poll rest f = object_line-good format verb.Poll rest (λ k h. h)

known-good : (format : ℕ) (o : Option Keyword) (rest : List (List ℕ)) → If (FitsKeyword format) o →
    Holds (GoodLine format) (known_line format o rest)
known-good format (Some k) rest f = meant-good format k rest f
known-good format None rest f = tt

meaning-good : (format : ℕ) (ws : List (List ℕ)) → Holds (GoodLine format) (meaning format ws)
meaning-good format [] = tt
meaning-good format (w ∷ ws) = known-good format (keyword_of format w) ws (fits-keyword format w)

pub line_of-good : (format : ℕ) (bytes : List ℕ) → Holds (GoodLine format) (line_meant format bytes)
line_of-good format bytes =
    cond_both (not (is_utf8 bytes)) _ _ (Holds (GoodLine format)) (λ e. tt)
    (λ e. cond_both (is_remark bytes) _ _ (Holds (GoodLine format)) (λ r. tt) (λ r. meaning-good format (words.words bytes)))
