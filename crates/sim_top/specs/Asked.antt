-- What the words of the command line ask of a run.
use Rattle.std.specs.Prelude.{Bool, List, None, Option, Some, if◌then◌else◌, ℕ, ◌≤◌}
use Rattle.std.specs.Option.{option_map}
use Rattle.command_words.specs.Line.{line}
use Rattle.command_words.specs.declared.Make.{Make}
use Rattle.command_words.specs.declared.SimWords.{SimWords}
use Rattle.sim_top.specs.declared.options.Form.{Form}
use Rattle.sim_top.specs.declared.options.Form.TheVariants as form
use Rattle.sim_top.specs.declared.options.Options.{Options}

-- what is written of a run of a scenario that is read
abbrev pub read_form : Bool → Bool → Form
read_form json trace = if json then form.Json else (if trace then form.Trace else form.Report)

abbrev pub made_or : Form → Option Make → Form
made_or read None = read
made_or read (Some make) = form.Summary make

-- what is to be written: the summary where the scenario is made up
abbrev pub form_of : SimWords → Form
form_of w = made_or (read_form w.json w.trace) w.make

abbrev pub options_from : SimWords → Options
options_from w = record { seed = w.seed; steps = w.steps; form = form_of w }

-- what the words ask for, or none where they are no command line
abbrev pub options_asked : List (List ℕ) → Option Options
options_asked words = option_map options_from (line words)

-- so many sessions and transactions as may be made up
abbrev pub HasRange : Form → Type 0
HasRange (form.Summary make) = (make.sessions ≤ 64) × (make.txs ≤ 100)
HasRange _ = Unit {0}
