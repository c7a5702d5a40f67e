-- What a line of a scenario means, by its words alone: the places of lines and the limits are not looked at here.
use Rattle.std.specs.Prelude.{ℕ, Bool, true, false, ◌==◌, not, List, [], ◌∷◌, codes, bytes_eq, Option, Some, None, Result, Ok, Err, if◌then◌else◌}
use Rattle.std.specs.Str.{is_utf8}
use Rattle.ignite_types.specs.declared.scenario.Mode.TheVariants.{Pessimistic}
use Rattle.ignite_types.specs.declared.scenario.Command.TheVariants as command
use Rattle.scen_text.specs.declared.cause.Cause.{Cause}
use Rattle.scen_text.specs.declared.cause.Cause.TheVariants.{NotUtf8, UnknownWord, Syntax}
use Rattle.scen_text.specs.declared.keyword.Keyword.{Keyword}
use Rattle.scen_text.specs.declared.keyword.Keyword.TheVariants as keyword
use Rattle.scen_text.specs.declared.line.Line.{Line}
use Rattle.scen_text.specs.declared.line.Line.TheVariants as line
use Rattle.scen_text.specs.declared.line.Setting.{Setting}
use Rattle.scen_text.specs.declared.line.Setting.TheVariants.{Parts, Backups, Near}
use Rattle.scen_text.specs.declared.line.Verb.{Verb}
use Rattle.scen_text.specs.declared.line.Verb.TheVariants as verb
use Rattle.scen_text.specs.Causes.{◌>>=◌}
use Rattle.scen_text.specs.Keywords.{keyword_of}
use Rattle.scen_text.specs.Forms.{cache_words, key_words, mode, node_of_word, object_words}
use Rattle.scen_text.specs.Plans.{plan_line}
use Rattle.scen_text.specs.Words.{integer, name, number_of_word, only_word, two_words, value_of_word, words}

abbrev pub format_of : List ℕ → Result ℕ Cause
format_of word = if bytes_eq word (codes "1") then Ok 1 else (if bytes_eq word (codes "2") then Ok 2 else Err Syntax)

-- `scenario 1` or `scenario 2`, by the words behind the first, as the definitions below
abbrev pub head_line : List (List ℕ) → Result Line Cause
head_line rest = do
  word ← only_word rest
  format ← format_of word
  Ok (line.Head format)

-- `parts N`, `backups N` or `near N`
abbrev pub setting_line : Setting → List (List ℕ) → Result Line Cause
setting_line setting rest = do
  word ← only_word rest
  n ← number_of_word word
  Ok (line.Setting setting n)

-- `cache NAME P B R` or `data NAME P B R`
abbrev pub cache_line : Bool → List (List ℕ) → Result Line Cause
cache_line is_data rest = cache_words rest >>= λ cache. Ok (line.Cache is_data cache)

-- `server N` or `client N`
abbrev pub member_line : Bool → List (List ℕ) → Result Line Cause
member_line server rest = do
  word ← only_word rest
  n ← node_of_word word
  Ok (line.Member (record { node = n; server = server }))

-- `session NAME N`
abbrev pub session_line_meant : List (List ℕ) → Result Line Cause
session_line_meant rest = do
  found ← two_words rest
  called ← name found.0
  n ← node_of_word found.1
  Ok (line.Session called n)

-- the timeout behind a mode, 0 where none is written
abbrev pub timeout : List (List ℕ) → Result ℕ Cause
timeout [] = Ok 0
timeout (word ∷ []) = number_of_word word
timeout _ = Err Syntax

-- `begin`, `begin MODE` or `begin MODE T`
abbrev pub begin_line : List (List ℕ) → Result Line Cause
begin_line [] = Ok (line.Bare (command.Begin Pessimistic 0))
begin_line (word ∷ more) = do
  m ← mode word
  t ← timeout more
  Ok (line.Bare (command.Begin m t))

-- `sleep M`
abbrev pub sleep_line : List (List ℕ) → Result Line Cause
sleep_line rest = do
  word ← only_word rest
  moments ← number_of_word word
  Ok (line.Bare (command.Sleep moments))

-- a line of one word, which means this
abbrev pub bare_line : Line → List (List ℕ) → Result Line Cause
bare_line l [] = Ok l
bare_line l _ = Err Syntax

-- `get K` and `remove K`
abbrev pub key_line : ℕ → Verb → List (List ℕ) → Result Line Cause
key_line format v rest = do
  word ← only_word rest
  k ← key_words format word
  Ok (line.Keyed v k)

-- `put K V`
abbrev pub key_value_line : ℕ → List (List ℕ) → Result Line Cause
key_value_line format rest = do
  found ← two_words rest
  k ← key_words format found.0
  v ← value_of_word found.1
  Ok (line.Keyed (verb.Put v) k)

-- `add K I`
abbrev pub key_integer_line : ℕ → List (List ℕ) → Result Line Cause
key_integer_line format rest = do
  found ← two_words rest
  k ← key_words format found.0
  i ← integer found.1
  Ok (line.Keyed (verb.Add i) k)

-- `next O` and `poll O`
abbrev pub object_line : Verb → List (List ℕ) → Result Line Cause
object_line v rest = do
  word ← only_word rest
  k ← object_words word
  Ok (line.Keyed v k)

-- `offer O V`
abbrev pub object_value_line : List (List ℕ) → Result Line Cause
object_value_line rest = do
  found ← two_words rest
  k ← object_words found.0
  v ← value_of_word found.1
  Ok (line.Keyed (verb.Offer v) k)

-- `incr O I`
abbrev pub object_integer_line : List (List ℕ) → Result Line Cause
object_integer_line rest = do
  found ← two_words rest
  k ← object_words found.0
  i ← integer found.1
  Ok (line.Keyed (verb.Incr i) k)

-- what a line means by its keyword and the words behind it
abbrev pub meant : ℕ → Keyword → List (List ℕ) → Result Line Cause
meant format keyword.Scenario rest = head_line rest
meant format keyword.Parts rest = setting_line Parts rest
meant format keyword.Backups rest = setting_line Backups rest
meant format keyword.Near rest = setting_line Near rest
meant format keyword.Cache rest = cache_line false rest
meant format keyword.Data rest = cache_line true rest
meant format keyword.Server rest = member_line true rest
meant format keyword.Client rest = member_line false rest
meant format keyword.Plan rest = plan_line format rest
meant format keyword.Session rest = session_line_meant rest
meant format keyword.End rest = bare_line line.End rest
meant format keyword.Begin rest = begin_line rest
meant format keyword.Get rest = key_line format verb.Get rest
meant format keyword.Put rest = key_value_line format rest
meant format keyword.Remove rest = key_line format verb.Remove rest
meant format keyword.Add rest = key_integer_line format rest
meant format keyword.Commit rest = bare_line (line.Bare command.Commit) rest
meant format keyword.Rollback rest = bare_line (line.Bare command.Rollback) rest
meant format keyword.Sleep rest = sleep_line rest
meant format keyword.Incr rest = object_integer_line rest
meant format keyword.Next rest = object_line verb.Next rest
meant format keyword.Offer rest = object_value_line rest
meant format keyword.Poll rest = object_line verb.Poll rest

abbrev pub known_line : ℕ → Option Keyword → List (List ℕ) → Result Line Cause
known_line format (Some word) rest = meant format word rest
known_line format None rest = Err UnknownWord

-- what the words of a line mean: nothing where there are none
abbrev pub meaning : ℕ → List (List ℕ) → Result Line Cause
meaning format [] = Ok line.Blank
meaning format (first ∷ rest) = known_line format (keyword_of format first) rest

-- a remark begins with `#`
abbrev pub is_remark : List ℕ → Bool
is_remark [] = false
is_remark (byte ∷ bytes) = byte == 35

-- what a line of a text of this format means
abbrev pub line_meant : ℕ → List ℕ → Result Line Cause
line_meant format bytes =
    if not (is_utf8 bytes) then Err NotUtf8 else (if is_remark bytes then Ok line.Blank else meaning format (words bytes))
