-- What the words of the command line ask for. The program's name is none of them.
use Rattle.std.specs.Prelude.{ℕ, Bool, not, ◌&&◌, ◌||◌, nat_le, List, [], length, Option, Some, None, is_some, if◌then◌else◌}
use Rattle.std.specs.List.{list_all}
use Rattle.std.specs.Str.Parse.{digits_value}
use Rattle.command_words.specs.declared.Make.{Make}
use Rattle.command_words.specs.declared.SimWords.{SimWords}
use Rattle.command_words.specs.Options as name
use Rattle.command_words.specs.Options.{Given, Text, is_given, options, value_given, ◌>>=◌}

abbrev pub is_digit_byte : ℕ → Bool
is_digit_byte b = nat_le 48 b && nat_le b 57

-- 1 to 20 decimal digits
abbrev pub is_number_text : Text → Bool
is_number_text text = nat_le 1 (length text) && (nat_le (length text) 20 && list_all is_digit_byte text)

-- the number from `least` to `most` that the value is
abbrev pub number_in_range : ℕ → ℕ → Text → Option ℕ
number_in_range least most text =
    let n = digits_value 10 text in if is_number_text text && (nat_le least n && nat_le n most) then Some n else None

-- the same of an option, or what is meant where it does not stand
abbrev pub number_or : ℕ → ℕ → ℕ → Option Text → Option ℕ
number_or default least most None = Some default
number_or default least most (Some text) = number_in_range least most text

-- the values of `--make` and `--txs`, which stands only with the first
abbrev pub made : Option Text → Option Text → Option (Option Make)
made None None = Some None
made None (Some txs) = None
made (Some sessions) txs = do
  count ← number_in_range 1 64 sessions
  each ← number_or 20 1 100 txs
  Some (Some (record { sessions = count; txs = each }))

-- `--trace` stands without `--make`, and `--json` without either
abbrev pub agree : Bool → Bool → Bool → Bool
agree trace json make = not (trace && make) && not (json && (trace || make))

-- what is asked for by the values of `--seed`, `--steps`, `--make` and `--txs`, and by whether `--trace` and `--json` stand
abbrev pub words_asked : Option Text → Option Text → Option Text → Option Text → Bool → Bool → Option SimWords
words_asked seed steps make txs trace json = do
  first ← number_or 0 0 18446744073709551615 seed
  most ← number_or 1000000 1 4000000 steps
  making ← made make txs
  if agree trace json (is_some make) then Some (record {
    seed = first;
    steps = most;
    trace = trace;
    json = json;
    make =
        making;
  }) else None

abbrev pub asked_by : Given → Option SimWords
asked_by given =
    words_asked (value_given name.seed given) (value_given name.steps given) (value_given name.make given)
    (value_given name.txs given) (is_given name.trace given) (is_given name.json given)

-- what the words ask for, or none where they are no command line
abbrev pub line : List Text → Option SimWords
line words = options [] None words >>= asked_by
