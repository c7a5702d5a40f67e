-- The options that stand in a line of words, each with its value.
use Rattle.std.specs.Prelude.{ℕ, Bool, true, false, not, ◌&&◌, ◌==◌, List, [], ◌∷◌, ◌++◌, length, find, codes, bytes_eq, Option, Some, None, is_some, option_map, if◌then◌else◌}
use Rattle.std.specs.List.{list_any, before_first, after_first}

abbrev pub Text : Type 0
Text = List ℕ

-- a step after a step that may refuse the line
infixl 10 ◌>>=◌
abbrev pub ◌>>=◌ : {A B : Type 0} → Option A → (A → Option B) → Option B
None >>= next = None
(Some x) >>= next = next x

-- ---- a word

pub data Name : Type 0 where
  seed : Name
  steps : Name
  make : Name
  txs : Name
  trace : Name
  json : Name

abbrev pub spelled : Name → Text
spelled seed = codes "seed"
spelled steps = codes "steps"
spelled make = codes "make"
spelled txs = codes "txs"
spelled trace = codes "trace"
spelled json = codes "json"

abbrev pub takes_value : Name → Bool
takes_value trace = false
takes_value json = false
takes_value _ = true

abbrev pub names : List Name
names = seed ∷ steps ∷ make ∷ txs ∷ trace ∷ json ∷ []

abbrev pub named : Text → Option Name
named text = find (λ name. bytes_eq (spelled name) text) names

-- what stands behind the first `=` (61), where there is one
abbrev pub value_in : Text → Option Text
value_in text = if list_any (λ b. b == 61) text then Some (after_first (λ b. b == 61) text) else None

-- what the word `--name` or `--name=value` names, and the value in it; 45 is the hyphen
abbrev pub option_in : Text → Option (Name × Option Text)
option_in (a ∷ b ∷ rest) =
    if a == 45 && b == 45 then option_map (λ name. (name, value_in rest)) (named (before_first (λ b. b == 61) rest)) else None
option_in _ = None

-- ---- the words

-- the options that stand in the line, in order, each with its value, which is empty where it takes none
abbrev pub Given : Type 0
Given = List (Name × Text)

abbrev pub value_given : Name → Given → Option Text
value_given name given = option_map (λ entry. entry.1) (find (λ entry. bytes_eq (spelled entry.0) (spelled name)) given)

abbrev pub is_given : Name → Given → Bool
is_given name given = is_some (value_given name given)

-- the options so far, and the one whose value is the next word
abbrev pub State : Type 0
State = Given × Option Name

-- one more option, which stands at most once
abbrev pub given_with : Name → Text → Given → Option State
given_with name value given = if is_given name given then None else Some (given ++ (name, value) ∷ [], None)

-- the word of an option, with the value that is in it
abbrev pub met : Given → Name → Option Text → Option State
met given name (Some value) = if takes_value name then given_with name value given else None
met given name None = if takes_value name then Some (given, Some name) else given_with name [] given

-- one more word: the value for which an option waits, or an option
abbrev pub turn : Given → Option Name → Text → Option State
turn given (Some name) word = given_with name word given
turn given None word = option_in word >>= λ found. met given found.0 found.1

-- `--` may stand last, and means nothing
abbrev pub is_end : Option Name → Text → List Text → Bool
is_end waiting word rest = not (is_some waiting) && (bytes_eq word (codes "--") && length rest == 0)

-- the options with those that the words give
abbrev pub options : Given → Option Name → List Text → Option Given
options given None [] = Some given
options given (Some name) [] = None
options given waiting (word ∷ rest) =
    if is_end waiting word rest then Some given else turn given waiting word >>= λ next. options next.0 next.1 rest
