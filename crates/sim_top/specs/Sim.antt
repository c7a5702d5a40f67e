-- What a call of the simulator comes to: its status, its journal, and the text that is to be written.
use Rattle.std.specs.Prelude.{◌≡◌, ◌≢◌, ◌<◌, ◌⊎◌, ◌^◌, ℕ, IsTrue, List, [], Option, Some, None, Ok, Err, IfSome, length, codes, ◌++◌, ◌∷◌}
use Rattle.command_words.specs.declared.Make.{Make}
use Rattle.ignite_types.specs.Good.{good}
use Rattle.ignite_types.specs.declared.journal.End.TheVariants as end
use Rattle.ignite_types.specs.declared.journal.Journal.{Journal}
use Rattle.ignite_types.specs.declared.scenario.Scenario.{Scenario}
use Rattle.ignite_types.specs.declared.journal.Status.{Status}
use Rattle.ignite_types.specs.declared.journal.Status.TheVariants as status
use Rattle.std.specs.Io.KnownBytes.{append_known, IsAtEnd}
use Rattle.host_io.specs.Faults.{Faulted}
use Rattle.host_io.specs.Sink.{AppendsPart}
use Rattle.run_promises.specs.RunPromises.{RunPromises}
use Rattle.scen_text.specs.Causes.{Refusal, refusal_text}
use Rattle.scen_text.specs.declared.cause.Cause.{Cause}
use Rattle.scen_text.specs.Reading.{scenario_of}
use Rattle.sched_seed.specs.Generated.{generated}
use Rattle.sim_top.specs.Asked.{options_asked}
use Rattle.sim_top.specs.Drive.{picks}
use Rattle.sim_top.specs.Told.{output_text}
use Rattle.sim_top.specs.declared.options.Form.{Form}
use Rattle.sim_top.specs.declared.options.Form.TheVariants as form
use Rattle.sim_top.specs.declared.options.Options.{Options}
use Rattle.tx_model.specs.Opening.{opening}
use Rattle.tx_model.specs.Runs.{AreSteps, IsLegal, IsScheduled, world_after}
use Rattle.tx_model.specs.World.{possible}

abbrev pub usage_text : List ℕ
usage_text = codes "usage: txsim [--seed N] [--steps N] [--trace] [--json] [--make N [--txs N]]" ++ (10 ∷ [])

abbrev pub read_fault_text : List ℕ
read_fault_text = codes "read fault" ++ (10 ∷ [])

-- what a call saw of its source: the bytes left and the count of faults, before and after
pub record Reading : Type 0 where
  pub before : Option (List ℕ)
  pub after : Option (List ℕ)
  pub faults_before : ℕ
  pub faults_after : ℕ

-- what a call did to its sink: the bytes held and the count of faults, before and after
pub record Writing : Type 0 where
  pub before : Option (List ℕ)
  pub after : Option (List ℕ)
  pub faults_before : ℕ
  pub faults_after : ℕ

-- the limit was met with another event possible
pub record MetLimit (o : Options) (j : Journal) : Type 0 where
  pub many : length j.groups ≡ o.steps
  pub more : possible (world_after (opening j.scenario) j.groups) ≢ []

-- the journal is the machine's own, and follows the schedule of the seed; of a good scenario it keeps what is proved of every
-- run
pub record Follow (o : Options) (j : Journal) : Type 0 where
  pub legal : IsLegal j
  pub schedule : IsScheduled (picks o.seed) j
  pub promises : IsTrue (good j.scenario) → length j.groups < 2 ^ 62 → RunPromises j

-- the groups so far are the machine's own; nothing is written
pub record OutOfMemory (o : Options) (j : Journal) (text : List ℕ) : Type 0 where
  pub steps : AreSteps (opening j.scenario) j.groups
  pub schedule : IsScheduled (picks o.seed) j
  pub nothing : text ≡ []

-- what the status of a run says of its journal
abbrev pub Runs : Options → Status → Journal → Type 0
Runs o status.AllEnded j = Follow o j × (j.end ≡ end.AllEnded)
Runs o status.Stalled j = Follow o j × (j.end ≡ end.Stalled)
Runs o status.StepLimit j = Follow o j × (j.end ≡ end.StepLimit) × MetLimit o j
Runs o _ j = ⊥

-- what a run of a scenario comes to: its report is to be written, unless memory ran out
abbrev pub RunSays : Options → Scenario → Status → Journal → List ℕ → Type 0
RunSays o s status.AllEnded j text = (j.scenario ≡ s) × Runs o status.AllEnded j × (text ≡ output_text o j)
RunSays o s status.Stalled j text = (j.scenario ≡ s) × Runs o status.Stalled j × (text ≡ output_text o j)
RunSays o s status.StepLimit j text = (j.scenario ≡ s) × Runs o status.StepLimit j × (text ≡ output_text o j)
RunSays o s status.Memory j text = OutOfMemory o j text
RunSays o s _ j text = ⊥

-- the text is refused, and this line says where and why
pub record IsRefused (bytes text : List ℕ) : Type 0 where
  pub refusal : Refusal
  pub refused : scenario_of bytes ≡ Err refusal
  pub line : text ≡ refusal_text refusal.line refusal.cause

-- no run was made, and this is to be written
pub record Tells (said : List ℕ) (j : Journal) (text : List ℕ) : Type 0 where
  pub no_run : j.groups ≡ []
  pub is : text ≡ said

-- what a refusal comes to
abbrev pub RefusalSays : ℕ → Cause → Status → Journal → List ℕ → Type 0
RefusalSays line cause status.Refused j text = Tells (refusal_text line cause) j text
RefusalSays line cause status.Memory j text = Tells [] j text
RefusalSays line cause _ j text = ⊥

-- what a fixed line comes to
abbrev pub LineSays : Status → List ℕ → Status → Journal → List ℕ → Type 0
LineSays status.Usage said status.Usage j text = Tells said j text
LineSays status.ReadFault said status.ReadFault j text = Tells said j text
LineSays s said status.Memory j text = Tells [] j text
LineSays s said _ j text = ⊥

-- what the bytes of a scenario come to
abbrev pub Means : Options → List ℕ → Status → Journal → List ℕ → Type 0
Means o bytes status.AllEnded j text =
    (scenario_of bytes ≡ Ok j.scenario) × Runs o status.AllEnded j × (text ≡ output_text o j)
Means o bytes status.Stalled j text = (scenario_of bytes ≡ Ok j.scenario) × Runs o status.Stalled j × (text ≡ output_text o j)
Means o bytes status.StepLimit j text =
    (scenario_of bytes ≡ Ok j.scenario) × Runs o status.StepLimit j × (text ≡ output_text o j)
Means o bytes status.Refused j text = IsRefused bytes text × (j.groups ≡ [])
Means o bytes status.Memory j text = OutOfMemory o j text
Means o bytes _ j text = ⊥

-- the words were refused before anything was read
pub record WasUsage (r : Reading) (j : Journal) (text : List ℕ) : Type 0 where
  pub same : r.after ≡ r.before
  pub same_faults : r.faults_after ≡ r.faults_before
  pub no_run : j.groups ≡ []
  pub said : text ≡ usage_text

-- the source was read to its end, and what its bytes mean, where it tells them, is said
pub record WasRead (o : Options) (r : Reading) (s : Status) (j : Journal) (text : List ℕ) : Type 0 where
  pub read_out : IsAtEnd r.after
  pub means : IfSome r.before (λ bytes. Means o bytes s j text)
  pub runs : Runs o s j × (text ≡ output_text o j)

-- the text was refused: for its bytes, or for their number
pub record WasRefused (r : Reading) (j : Journal) (text : List ℕ) : Type 0 where
  pub refused : IfSome r.before (λ bytes. IsRefused bytes text)
  pub no_run : j.groups ≡ []

pub record HadFault (r : Reading) (j : Journal) (text : List ℕ) : Type 0 where
  pub fault : Faulted r.faults_before r.faults_after
  pub no_run : j.groups ≡ []
  pub said : text ≡ read_fault_text

-- what reading and running comes to
abbrev pub ReadSays : Options → Reading → Status → Journal → List ℕ → Type 0
ReadSays o r status.AllEnded j text = WasRead o r status.AllEnded j text
ReadSays o r status.Stalled j text = WasRead o r status.Stalled j text
ReadSays o r status.StepLimit j text = WasRead o r status.StepLimit j text
ReadSays o r status.Refused j text = WasRefused r j text
ReadSays o r status.ReadFault j text = HadFault r j text
ReadSays o r status.Memory j text = OutOfMemory o j text
ReadSays o r _ j text = ⊥

-- the source was left alone, and a scenario that the seed makes up was run
pub record MadeUp (o : Options) (make : Make) (r : Reading) (s : Status) (j : Journal) (text : List ℕ) : Type 0 where
  pub same : r.after ≡ r.before
  pub same_faults : r.faults_after ≡ r.faults_before
  pub says : RunSays o (generated o.seed make.sessions make.txs) s j text

-- what a run comes to, whose scenario is read, or made up where the summary is asked for
abbrev pub SaysIn : Form → Options → Reading → Status → Journal → List ℕ → Type 0
SaysIn form.Report o r s j text = ReadSays o r s j text
SaysIn form.Trace o r s j text = ReadSays o r s j text
SaysIn form.Json o r s j text = ReadSays o r s j text
SaysIn (form.Summary make) o r s j text = MadeUp o make r s j text

-- the words ask for a run, and this is what it comes to
pub record Asked (words : List (List ℕ)) (r : Reading) (s : Status) (j : Journal) (text : List ℕ) : Type 0 where
  pub options : Options
  pub meant : options_asked words ≡ Some options
  pub says : SaysIn options.form options r s j text

-- what a call comes to with these words, before it is written
abbrev pub Comes : List (List ℕ) → Reading → Status → Journal → List ℕ → Type 0
Comes words r status.Usage j text = (options_asked words ≡ None) × WasUsage r j text
Comes words r status.Memory j text = Asked words r status.Memory j text ⊎ Tells [] j text
Comes words r status.AllEnded j text = Asked words r status.AllEnded j text
Comes words r status.Stalled j text = Asked words r status.Stalled j text
Comes words r status.StepLimit j text = Asked words r status.StepLimit j text
Comes words r status.Refused j text = Asked words r status.Refused j text
Comes words r status.ReadFault j text = Asked words r status.ReadFault j text
Comes words r status.WriteFault j text = ⊥

-- the whole text was written
pub record Written (words : List (List ℕ)) (r : Reading) (w : Writing) (s : Status) (j : Journal) : Type 0 where
  pub text : List ℕ
  pub comes : Comes words r s j text
  pub held : w.after ≡ append_known w.before text

-- a fault of the sink cut the text of another status off
pub record CutOff (words : List (List ℕ)) (r : Reading) (w : Writing) (j : Journal) : Type 0 where
  pub replaced : Status
  pub text : List ℕ
  pub comes : Comes words r replaced j text
  pub held : AppendsPart w.before w.after text
  pub fault : Faulted w.faults_before w.faults_after

-- what a call of the simulator ends with
abbrev pub Ends : List (List ℕ) → Reading → Writing → Status → Journal → Type 0
Ends words r w status.WriteFault j = CutOff words r w j
Ends words r w status.AllEnded j = Written words r w status.AllEnded j
Ends words r w status.Stalled j = Written words r w status.Stalled j
Ends words r w status.StepLimit j = Written words r w status.StepLimit j
Ends words r w status.Usage j = Written words r w status.Usage j
Ends words r w status.Refused j = Written words r w status.Refused j
Ends words r w status.ReadFault j = Written words r w status.ReadFault j
Ends words r w status.Memory j = Written words r w status.Memory j
