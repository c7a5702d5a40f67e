-- What the words of a plan line mean, by the words behind the step's word.
use Rattle.std.specs.Prelude.{ℕ, List, ◌∷◌, Option, Some, None, Result, Ok, Err}
use Rattle.ignite_types.specs.declared.scenario.Step.TheVariants.{Lose, Hold, Release}
use Rattle.scen_text.specs.declared.cause.Cause.{Cause}
use Rattle.scen_text.specs.declared.cause.Cause.TheVariants.{Syntax}
use Rattle.scen_text.specs.declared.keyword.StepKeyword.{StepKeyword}
use Rattle.scen_text.specs.declared.keyword.StepKeyword.TheVariants as step
use Rattle.scen_text.specs.declared.line.Line.{Line}
use Rattle.scen_text.specs.declared.line.Line.TheVariants as line
use Rattle.scen_text.specs.Causes.{◌>>=◌}
use Rattle.scen_text.specs.Keywords.{step_keyword}
use Rattle.scen_text.specs.Forms.{cache_words, node_of_word, role}
use Rattle.scen_text.specs.Words.{name, number_of_word, only_word, two_words}

-- `join N server` or `join N client`
abbrev pub join_step : ℕ → List (List ℕ) → Result Line Cause
join_step moment rest = do
  found ← two_words rest
  n ← node_of_word found.0
  server ← role found.1
  Ok (line.Join moment (record { node = n; server = server }))

-- `lose N`
abbrev pub lose_step : ℕ → List (List ℕ) → Result Line Cause
lose_step moment rest = do
  word ← only_word rest
  n ← node_of_word word
  Ok (line.Links moment (Lose n))

-- `hold N N`
abbrev pub hold_step : ℕ → List (List ℕ) → Result Line Cause
hold_step moment rest = do
  found ← two_words rest
  sender ← node_of_word found.0
  addressee ← node_of_word found.1
  Ok (line.Links moment (Hold sender addressee))

-- `release N N`
abbrev pub release_step : ℕ → List (List ℕ) → Result Line Cause
release_step moment rest = do
  found ← two_words rest
  sender ← node_of_word found.0
  addressee ← node_of_word found.1
  Ok (line.Links moment (Release sender addressee))

-- `start NAME P B R`
abbrev pub start_step : ℕ → List (List ℕ) → Result Line Cause
start_step moment rest = do
  cache ← cache_words rest
  Ok (line.Start moment cache)

-- `stop NAME`
abbrev pub stop_step : ℕ → List (List ℕ) → Result Line Cause
stop_step moment rest = do
  word ← only_word rest
  called ← name word
  Ok (line.Stop moment called)

abbrev pub step_meant : ℕ → StepKeyword → List (List ℕ) → Result Line Cause
step_meant moment step.Join rest = join_step moment rest
step_meant moment step.Lose rest = lose_step moment rest
step_meant moment step.Hold rest = hold_step moment rest
step_meant moment step.Release rest = release_step moment rest
step_meant moment step.Start rest = start_step moment rest
step_meant moment step.Stop rest = stop_step moment rest

abbrev pub step_or_syntax : ℕ → Option StepKeyword → List (List ℕ) → Result Line Cause
step_or_syntax moment (Some keyword) rest = step_meant moment keyword rest
step_or_syntax moment None rest = Err Syntax

-- `plan M STEP`
abbrev pub plan_line : ℕ → List (List ℕ) → Result Line Cause
plan_line format (first ∷ second ∷ rest) =
    number_of_word first >>= λ moment. step_or_syntax moment (step_keyword format second) rest
plan_line format _ = Err Syntax
