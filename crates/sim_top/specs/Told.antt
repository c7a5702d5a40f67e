-- The text that a run comes to.
use Rattle.std.specs.Prelude.{List, false, true, ℕ}
use Rattle.command_words.specs.declared.Make.{Make}
use Rattle.ignite_types.specs.declared.journal.Journal.{Journal}
use Rattle.report_text.specs.Report.{report_of}
use Rattle.sim_top.specs.declared.options.Form.{Form}
use Rattle.sim_top.specs.declared.options.Form.TheVariants as form
use Rattle.sim_top.specs.declared.options.Options.{Options}
use Rattle.summary_text.specs.Json.{history_json}
use Rattle.summary_text.specs.Summary.{summary}
use Rattle.summary_text.specs.declared.made.Made.{Made}
use Rattle.tx_model.specs.History.{commits_of}
use Rattle.tx_model.specs.Outlooks.{outlook_of}

-- how the scenario was made up
abbrev pub made_by : ℕ → Make → Made
made_by seed make = record { seed = seed; sessions = make.sessions; txs = make.txs }

-- a journal in this form
abbrev pub text_in : ℕ → Journal → Form → List ℕ
text_in seed j form.Report = report_of j false
text_in seed j form.Trace = report_of j true
text_in seed j form.Json = history_json j.scenario (commits_of j)
text_in seed j (form.Summary make) = summary j (made_by seed make) (outlook_of j) (commits_of j)

-- what is to be written of a run
abbrev pub output_text : Options → Journal → List ℕ
output_text o j = text_in o.seed j o.form
