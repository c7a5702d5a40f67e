-- The parser's rules for the options, and what it makes of one use.
use Rattle.std.proofs.Common.{◌≡◌, ◌∙◌, ◌++◌, ◌&&◌, ◌||◌, not, Bool, true, false, cond, List, [], ◌∷◌, map, Some, None, is_some, refl, sym, ap, find, bytes_eq, option_map, codes}
use Rattle.std.proofs.lemmas.List.{map-append}
use Rattle.clap.specs.Walk.{Row, Rule, has_row, used, with_values, without}
use Rattle.clap.specs.Simple.{filled, new_rule}
use Rattle.clap.specs.Kinds.{or_else}
use Rattle.clap.specs.Faults.{use_fault}
use Rattle.clap.specs.declared.builder.ArgAction.TheVariants.{SetTrue}
use Rattle.clap.specs.declared.error.kind.ErrorKind.TheVariants.{ArgumentConflict, InvalidValue}
use Rattle.clap.specs.declared.parser.matches.ValueSource.{ValueSource}
use Rattle.clap.specs.declared.parser.matches.ValueSource.TheVariants.{CommandLine}
use Rattle.clap.specs.declared.builder.value_parser.Reading.{Reading}
use Rattle.clap.specs.declared.builder.value_parser.Reading.TheVariants.{AsWritten}
use Rattle.command_words.specs.Options.{Given, Name, Text, is_given, spelled, takes_value}

-- the rule of an option with a value, or without
abbrev pub rule_by : Text → Bool → Rule
rule_by id takes = filled (record (new_rule id) { long = Some id; action = cond takes None (Some SetTrue) })

abbrev pub rule : Name → Rule
rule n = rule_by (spelled n) (takes_value n)

abbrev pub shown : Bool → Text → Text
shown true t = t
shown false t = codes "true"

-- the row of an option that stands in the line
abbrev pub row_at : Text → Bool → Text → Row
row_at id takes t = record {
  id = id;
  values = shown takes t ∷ [];
  count = None;
  source = Some CommandLine;
  reading =
      AsWritten;
}

abbrev pub row : Name × Text → Row
row e = row_at (spelled e.0) (takes_value e.0) e.1

abbrev pub rows : Given → List Row
rows = map row

pub has_row-rows : (n : Name) (given : Given) → has_row (spelled n) (rows given) ≡ is_given n given
has_row-rows n [] = refl
has_row-rows n (e ∷ given) = go (bytes_eq (spelled e.0) (spelled n)) (has_row-rows n given)
  where
    go : (b : Bool) → has_row (spelled n) (rows given) ≡ is_given n given
        → (b || has_row (spelled n) (rows given)) ≡ is_some
        (option_map (λ (x : Name × Text). x.1) (cond b (Some e) (find (λ x. bytes_eq (spelled x.0) (spelled n)) given)))
    go true h = refl
    go false h = h

-- a first use puts a row at the end
pub appended : (id : Text) (how : Reading) (s : ValueSource) (vs : List Text) (xs : List Row) → has_row id xs ≡ false
    → with_values id how s vs (without id xs) ≡ xs ++ record {
      id = id;
      values = vs;
      count = None;
      source = Some s;
      reading =
          how;
    } ∷ []
appended id how s vs [] h = refl
appended id how s vs (x ∷ xs) h = go (bytes_eq x.id id) refl h (appended id how s vs xs)
  where
    go : (b : Bool) → bytes_eq x.id id ≡ b → (b || has_row id xs) ≡ false
        → (has_row id xs ≡ false → with_values id how s vs (without id xs) ≡ xs ++ record {
          id = id;
          values = vs;
          count =
              None;
          source = Some s;
          reading = how;
        } ∷ [])
        → with_values id how s vs (without id (x ∷ xs)) ≡ (x ∷ xs) ++ record {
          id = id;
          values = vs;
          count = None;
          source =
              Some s;
          reading = how;
        } ∷ []
    go true e h rec = cc
    go false e h rec = rw (e, e) (ap (λ ys. x ∷ ys) (rec h))

-- a use has the value of an option that takes one, and else nothing
abbrev pub raw : Bool → Text → List Text
raw true t = t ∷ []
raw false t = []

pub use_by : (id : Text) (takes : Bool) (t : Text) (xs : List Row) → use_fault false (rule_by id takes) (raw takes t) xs
    ≡ cond (has_row id xs) (ArgumentConflict ∷ []) []
use_by id takes t xs = pick takes
  where
    go : (b : Bool) → or_else (cond (b && not false) (ArgumentConflict ∷ []) []) [] ≡ cond b (ArgumentConflict ∷ []) []
    go true = refl
    go false = refl

    pick : (takes : Bool) → use_fault false (rule_by id takes) (raw takes t) xs ≡ cond (has_row id xs) (ArgumentConflict ∷ [])
        []
    pick true = go (has_row id xs)
    pick false = go (has_row id xs)

pub used_by_rule : (id : Text) (takes : Bool) (t : Text) (xs : List Row) → has_row id xs ≡ false →
    used (rule_by id takes) (raw takes t) xs ≡ xs ++ row_at id takes t ∷ []
used_by_rule id true t xs h = appended id AsWritten CommandLine (t ∷ []) xs h
used_by_rule id false t xs h = appended id AsWritten CommandLine (codes "true" ∷ []) xs h

-- an option that takes a value has none
pub missing_value : (id : Text) (xs : List Row) → use_fault false (rule_by id true) [] xs ≡ InvalidValue ∷ []
missing_value id xs = refl

-- the same of the options of a line
pub use_is : (n : Name) (t : Text) (given : Given) → use_fault false (rule n) (raw (takes_value n) t) (rows given)
    ≡ cond (is_given n given) (ArgumentConflict ∷ []) []
use_is n t given = use_by (spelled n) (takes_value n) t (rows given) ∙ ap (λ (b : Bool). cond b (ArgumentConflict ∷ []) [])
    (has_row-rows n given)

pub used_is : (n : Name) (t : Text) (given : Given) → is_given n given ≡ false →
    used (rule n) (raw (takes_value n) t) (rows given) ≡ rows (given ++ (n, t) ∷ [])
used_is n t given h = used_by_rule (spelled n) (takes_value n) t (rows given) (has_row-rows n given ∙ h)
    ∙ sym (map-append row given ((n, t) ∷ []))
