-- What a word looks like to the parser.
use Rattle.std.proofs.Common.{◌≡◌, ◌&&◌, ℕ, Bool, true, false, cond, [], ◌∷◌, length, nat_le, Option, Some, None, refl, sym, subst, eqb-true, option_map, ◌==◌}
use Rattle.clap.specs.Lexer.{long_of, long_of_rest, name_and_value, short_of, short_of_rest, strip_byte}
use Rattle.std.specs.Prelude.{bytes_eq, option_and_then}
use Rattle.std.proofs.lemmas.Slice.Eq.{bytes_eq-Decides}
use Rattle.command_words.specs.Line.{is_number_text}
use Rattle.command_words.specs.Options.{Name, Text, named, option_in}

-- the option of a long word, as the parser cuts it
abbrev pub seen : Option (Text × Option Text) → Option (Name × Option Text)
seen None = None
seen (Some p) = option_map (λ name. (name, p.1)) (named p.0)

pub option_is : (word : Text) → option_in word ≡ seen (long_of word)
option_is [] = refl
option_is (a ∷ []) = go (a == 45)
  where
    go : (s : Bool) → option_in (a ∷ [])
        ≡ seen (option_and_then long_of_rest (option_and_then (strip_byte 45) (cond s (Some []) None)))
    go true = refl
    go false = refl
option_is (a ∷ b ∷ []) = go (a == 45) (b == 45) refl
  where
    none : Option (Name × Option Text)
    none = None

    go : (s t : Bool) → (b == 45) ≡ t
        → cond (s && t) none none
        ≡ seen (option_and_then long_of_rest (option_and_then (strip_byte 45) (cond s (Some (b ∷ [])) None)))
    go true true e = rw e
    go true false e = rw e
    go false t e = refl
option_is (a ∷ b ∷ x ∷ rest) = go (a == 45) (b == 45) refl
  where
    go : (s t : Bool) → (b == 45) ≡ t
        → cond (s && t) (seen (Some (name_and_value (x ∷ rest)))) None
        ≡ seen (option_and_then long_of_rest (option_and_then (strip_byte 45) (cond s (Some (b ∷ x ∷ rest)) None)))
    go true true e = rw e
    go true false e = rw e
    go false t e = refl

-- a word with a hyphen (45) first is no number
hyphen_no_number : (x : ℕ) (xs : Text) → (x == 45) ≡ true → is_number_text (x ∷ xs) ≡ false
hyphen_no_number x xs h = subst (λ (n : ℕ). is_number_text (n ∷ xs) ≡ false) (sym (eqb-true x 45 h))
    (go (nat_le 1 (length (45 ∷ xs))) (nat_le (length (45 ∷ xs)) 20))
  where
    go : (a b : Bool) → (a && (b && false)) ≡ false
    go true true = refl
    go true false = refl
    go false b = refl

pub long_no_number : (word : Text) (p : Text × Option Text) → long_of word ≡ Some p → is_number_text word ≡ false
long_no_number [] p h = refl
long_no_number (x ∷ xs) p h = go (x == 45) refl h
  where
    go : (b : Bool) → (x == 45) ≡ b → option_and_then long_of_rest (option_and_then (strip_byte 45) (cond b (Some xs) None))
        ≡ Some p → is_number_text (x ∷ xs) ≡ false
    go true e h = hyphen_no_number x xs e
    go false e h = cc

pub short_no_number : (word flags : Text) → short_of word ≡ Some flags → is_number_text word ≡ false
short_no_number [] flags h = refl
short_no_number (x ∷ xs) flags h = go (x == 45) refl h
  where
    go : (b : Bool) → (x == 45) ≡ b → option_and_then short_of_rest (cond b (Some xs) None) ≡ Some flags →
        is_number_text (x ∷ xs) ≡ false
    go true e h = hyphen_no_number x xs e
    go false e h = cc

pub dashes_no_number : (word : Text) → bytes_eq word (45 ∷ 45 ∷ []) ≡ true → is_number_text word ≡ false
dashes_no_number word h = subst (λ (w : Text). is_number_text w ≡ false) (sym ((bytes_eq-Decides word (45 ∷ 45 ∷ [])).0 h)) refl

-- `--` names no option
pub dashes_named : (word : Text) → bytes_eq word (45 ∷ 45 ∷ []) ≡ true → option_in word ≡ None
dashes_named word h = subst (λ (w : Text). option_in w ≡ None) (sym ((bytes_eq-Decides word (45 ∷ 45 ∷ [])).0 h)) refl
