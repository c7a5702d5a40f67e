-- What the rules of the six options give.
use Rattle.std.proofs.Common.{◌≡◌, ◌∙◌, ◌++◌, ◌||◌, not, Bool, true, false, cond, List, [], ◌∷◌, map, Option, Some, None, is_some, refl, sym, ap, ap₂, find, fold, bytes_eq, option_map, codes}
use Rattle.std.specs.Prelude.{option_and_then, slice_get}
use Rattle.std.proofs.lemmas.Slice.Eq.{bytes_eq-Decides}
use Rattle.clap.specs.Walk.{Row, Rule, arg_by_id, arg_by_long, first_of, has_row, more_values, with_default, with_values}
use Rattle.clap.specs.Kinds.{Kinds, or_else}
use Rattle.clap.specs.Faults.{default_fault, defaults_fault}
use Rattle.clap.specs.declared.parser.matches.ValueSource.TheVariants.{DefaultValue}
use Rattle.clap.specs.declared.builder.value_parser.Reading.TheVariants.{AsWritten}
use Rattle.command_words.specs.Line.{asked_by, words_asked}
use Rattle.command_words.specs.Options.{Given, Name, Text, is_given, json, make, names, seed, spelled, steps, takes_value, trace, txs, value_given}
use Rattle.command_words.specs.Parse.{asked_of, is_set}
use Rattle.command_words.proofs.Rules.{rule, rule_by, row, rows, shown}
use Rattle.command_words.proofs.Turns.{Knows}

abbrev pub rules : List Rule
rules = map rule names

long_is : (name : Text) (ns : List Name) → arg_by_long (map rule ns) name ≡ option_map rule
    (find (λ n. bytes_eq (spelled n) name) ns)
long_is name [] = refl
long_is name (n ∷ ns) = go (bytes_eq (spelled n) name) (long_is name ns)
  where
    go : (b : Bool) → arg_by_long (map rule ns) name ≡ option_map rule (find (λ n. bytes_eq (spelled n) name) ns)
        → cond (b || false) (Some (rule n)) (arg_by_long (map rule ns) name) ≡ option_map rule
        (cond b (Some n) (find (λ n. bytes_eq (spelled n) name) ns))
    go true h = refl
    go false h = h

id_is : (n : Name) → arg_by_id rules (spelled n) ≡ Some (rule n)
id_is seed = refl
id_is steps = refl
id_is make = refl
id_is txs = refl
id_is trace = refl
id_is json = refl

default_passes : (id : Text) (takes : Bool) (xs : List Row) → default_fault xs (rule_by id takes) ≡ []
default_passes id true xs = go (has_row id xs)
  where
    kinds : Kinds
    kinds = []

    go : (b : Bool) → cond (b || true) kinds kinds ≡ []
    go true = refl
    go false = refl
default_passes id false xs = go (has_row id xs)
  where
    kinds : Kinds
    kinds = []

    go : (b : Bool) → cond (b || false) kinds kinds ≡ []
    go true = refl
    go false = refl

defaults_pass : (ns : List Name) (xs : List Row) → defaults_fault xs (map rule ns) ≡ []
unfolding defaults_fault
defaults_pass [] xs = refl
defaults_pass (n ∷ ns) xs = ap₂ or_else (default_passes (spelled n) (takes_value n) xs)
    (defaults_pass ns (with_default xs (rule n)))

-- an option with a value has no default
no_default : (id : Text) (xs : List Row) → with_default xs (rule_by id true) ≡ xs
no_default id xs = go (has_row id xs)
  where
    go : (b : Bool) → cond b xs xs ≡ xs
    go true = refl
    go false = refl

abbrev default_row : Text → Row
default_row id = record { id = id; values = codes "false" ∷ []; count = None; source = Some DefaultValue; reading = AsWritten }

row_added : (id : Text) (xs : List Row) → has_row id xs ≡ false →
    with_values id AsWritten DefaultValue (codes "false" ∷ []) xs ≡ xs ++ default_row id ∷ []
row_added id [] h = refl
row_added id (x ∷ xs) h = go (bytes_eq x.id id) h (row_added id xs)
  where
    go : (b : Bool) → (b || has_row id xs) ≡ false
        → (has_row id xs ≡ false → with_values id AsWritten DefaultValue (codes "false" ∷ []) xs ≡ xs ++ default_row id ∷ [])
        → cond b (more_values DefaultValue (codes "false" ∷ []) x ++ xs)
        (x ∷ with_values id AsWritten DefaultValue (codes "false" ∷ []) xs) ≡ (x ∷ xs) ++ default_row id ∷ []
    go true h rec = cc
    go false h rec = ap (λ (ys : List Row). x ∷ ys) (rec h)

-- a flag that does not stand in the line has the row `false` at the end
flag_default : (id : Text) (xs : List Row) (b : Bool) → has_row id xs ≡ b →
    with_default xs (rule_by id false) ≡ cond b xs (xs ++ default_row id ∷ [])
flag_default id xs true e = ap (λ (b : Bool). cond b xs (with_values id AsWritten DefaultValue (codes "false" ∷ []) xs)) e
flag_default id xs false e = ap (λ (b : Bool). cond b xs (with_values id AsWritten DefaultValue (codes "false" ∷ []) xs)) e
    ∙ row_added id xs e

first_more : (id : Text) (xs : List Row) (r : Row) → bytes_eq r.id id ≡ false → first_of id (xs ++ r ∷ []) ≡ first_of id xs
first_more id [] r h = ap (λ (b : Bool). option_and_then (λ (x : Row). slice_get x.values 0) (cond b (Some r) None)) h
first_more id (x ∷ xs) r h = go (bytes_eq x.id id) (first_more id xs r h)
  where
    go : (b : Bool) → first_of id (xs ++ r ∷ []) ≡ first_of id xs
        → option_and_then (λ (x : Row). slice_get x.values 0) (cond b (Some x) (find (λ x. bytes_eq x.id id) (xs ++ r ∷ [])))
        ≡ option_and_then (λ (x : Row). slice_get x.values 0) (cond b (Some x) (find (λ x. bytes_eq x.id id) xs))
    go true rec = refl
    go false rec = rec

first_last : (id : Text) (xs : List Row) → has_row id xs ≡ false → (first_of id xs ≡ None)
    × (first_of id (xs ++ default_row id ∷ []) ≡ Some (codes "false"))
first_last id [] h = (
  refl,
  ap (λ (b : Bool). option_and_then (λ (x : Row). slice_get x.values 0) (cond b (Some (default_row id)) None))
      ((bytes_eq-Decides id id).1 refl),
)
first_last id (x ∷ xs) h = go (bytes_eq x.id id) h (first_last id xs)
  where
    go : (b : Bool) → (b || has_row id xs) ≡ false
        → (has_row id xs ≡ false → (first_of id xs ≡ None) × (first_of id (xs ++ default_row id ∷ []) ≡ Some (codes "false")))
        → (option_and_then (λ (x : Row). slice_get x.values 0) (cond b (Some x) (find (λ x. bytes_eq x.id id) xs)) ≡ None)
        × (option_and_then (λ (x : Row). slice_get x.values 0)
        (cond b (Some x) (find (λ x. bytes_eq x.id id) (xs ++ default_row id ∷ []))) ≡ Some (codes "false"))
    go true h rec = cc
    go false h rec = rec h

other_flag : (id other : Text) (xs : List Row) → bytes_eq other id ≡ false →
    first_of id (with_default xs (rule_by other false)) ≡ first_of id xs
other_flag id other xs h = go (has_row other xs) refl
  where
    go : (b : Bool) → has_row other xs ≡ b → first_of id (with_default xs (rule_by other false)) ≡ first_of id xs
    go true e = ap (first_of id) (flag_default other xs true e)
    go false e = ap (first_of id) (flag_default other xs false e) ∙ first_more id xs (default_row other) h

own_flag : (id : Text) (xs : List Row) → is_set (first_of id (with_default xs (rule_by id false))) ≡ is_set (first_of id xs)
own_flag id xs = go (has_row id xs) refl
  where
    go : (b : Bool) → has_row id xs ≡ b → is_set (first_of id (with_default xs (rule_by id false))) ≡ is_set (first_of id xs)
    go true e = ap (λ (ys : List Row). is_set (first_of id ys)) (flag_default id xs true e)
    go false e = ap (λ (ys : List Row). is_set (first_of id ys)) (flag_default id xs false e)
        ∙ (ap is_set (first_last id xs e).1 ∙ sym (ap is_set (first_last id xs e).0))

-- ---- the rows of the options of a line

abbrev takes_by : Text → Bool
takes_by id = not (bytes_eq id (codes "trace") || bytes_eq id (codes "json"))

takes_is : (n : Name) → takes_value n ≡ takes_by (spelled n)
takes_is seed = refl
takes_is steps = refl
takes_is make = refl
takes_is txs = refl
takes_is trace = refl
takes_is json = refl

same_takes : (a b : Name) → bytes_eq (spelled a) (spelled b) ≡ true → takes_value a ≡ takes_value b
same_takes a b h = takes_is a ∙ (ap takes_by ((bytes_eq-Decides (spelled a) (spelled b)).0 h) ∙ sym (takes_is b))

first_value : (n : Name) (given : Given) → first_of (spelled n) (rows given) ≡ option_map (shown (takes_value n))
    (value_given n given)
first_value n [] = refl
first_value n (e ∷ given) = go (bytes_eq (spelled e.0) (spelled n)) refl (first_value n given)
  where
    go : (b : Bool) → bytes_eq (spelled e.0) (spelled n) ≡ b →
        first_of (spelled n) (rows given) ≡ option_map (shown (takes_value n)) (value_given n given)
        → option_and_then (λ (x : Row). slice_get x.values 0)
        (cond b (Some (row e)) (find (λ x. bytes_eq x.id (spelled n)) (rows given)))
        ≡ option_map (shown (takes_value n))
        (option_map (λ (x : Name × Text). x.1) (cond b (Some e) (find (λ x. bytes_eq (spelled x.0) (spelled n)) given)))
    go true h rec = ap (λ (b : Bool). Some (shown b e.1)) (same_takes e.0 n h)
    go false h rec = rec

value_shown : (o : Option Text) → option_map (shown true) o ≡ o
value_shown None = refl
value_shown (Some t) = refl

flag_shown : (o : Option Text) → is_set (option_map (shown false) o) ≡ is_some o
flag_shown None = refl
flag_shown (Some t) = refl

with_flags : List Row → List Row
with_flags xs = with_default (with_default xs (rule_by (codes "trace") false)) (rule_by (codes "json") false)

finished_is : (xs : List Row) → fold with_default xs rules ≡ with_default (with_default xs (rule trace)) (rule json)
finished_is xs =
    ap (λ ys. with_default (with_default (with_default (with_default (with_default ys (rule steps)) (rule make)) (rule txs))
    (rule trace)) (rule json)) (no_default (codes "seed") xs)
    ∙ (ap (λ ys. with_default (with_default (with_default (with_default ys (rule make)) (rule txs)) (rule trace)) (rule json))
    (no_default (codes "steps") xs)
    ∙ (ap (λ ys. with_default (with_default (with_default ys (rule txs)) (rule trace)) (rule json))
    (no_default (codes "make") xs)
    ∙ ap (λ ys. with_default (with_default ys (rule trace)) (rule json)) (no_default (codes "txs") xs)))

read_value : (n : Name) (given : Given) → takes_value n ≡ true → bytes_eq (codes "trace") (spelled n) ≡ false →
    bytes_eq (codes "json") (spelled n) ≡ false
    → first_of (spelled n) (with_default (with_default (rows given) (rule trace)) (rule json)) ≡ value_given n given
read_value n given takes t j =
    other_flag (spelled n) (codes "json") (with_default (rows given) (rule trace)) j
    ∙ (other_flag (spelled n) (codes "trace") (rows given) t
    ∙ (first_value n given ∙ (ap (λ (b : Bool). option_map (shown b) (value_given n given)) takes
    ∙ value_shown (value_given n given))))

read_trace : (given : Given) →
    is_set (first_of (codes "trace") (with_default (with_default (rows given) (rule trace)) (rule json))) ≡ is_given trace given
read_trace given =
    ap is_set (other_flag (codes "trace") (codes "json") (with_default (rows given) (rule trace)) refl)
    ∙ (own_flag (codes "trace") (rows given) ∙ (ap is_set (first_value trace given) ∙ flag_shown (value_given trace given)))

read_json : (given : Given) →
    is_set (first_of (codes "json") (with_default (with_default (rows given) (rule trace)) (rule json))) ≡ is_given json given
read_json given =
    own_flag (codes "json") (with_default (rows given) (rule trace))
    ∙ (ap is_set (other_flag (codes "json") (codes "trace") (rows given) refl)
    ∙ (ap is_set (first_value json given) ∙ flag_shown (value_given json given)))

read_line : (given : Given) → asked_of (λ id. first_of id (with_default (with_default (rows given) (rule trace)) (rule json)))
    ≡ asked_by given
read_line given = λ i. words_asked (read_value seed given refl refl refl i) (read_value steps given refl refl refl i)
    (read_value make given refl refl refl i) (read_value txs given refl refl refl i) (read_trace given i) (read_json given i)

pub known : Knows rules
known = record {
  long = λ name. long_is name names;
  id = id_is;
  short = λ x. refl;
  index = refl;
  defaults = λ xs. defaults_pass names xs;
  checks = λ xs. refl;
  reads = λ given h same. ap (λ xs. asked_of (λ id. first_of id xs)) (ap (λ xs. fold with_default xs rules) same
      ∙ finished_is (rows given)) ∙ read_line given;
}
