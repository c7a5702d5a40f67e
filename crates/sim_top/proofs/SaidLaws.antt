-- What a call comes to, put together from its parts, status by status.
use Rattle.std.proofs.Common.{◌≡◌, ◌≢◌, ℕ, ◌<◌, true, false, List, [], length, Option, Some, None, Ok, Err, IfSome, inl, inr, refl, subst}
use Rattle.ignite_types.specs.declared.journal.End.{End}
use Rattle.ignite_types.specs.declared.journal.End.TheVariants as end
use Rattle.ignite_types.specs.declared.journal.Journal.{Journal}
use Rattle.ignite_types.specs.declared.journal.Status.{Status}
use Rattle.ignite_types.specs.declared.journal.Status.TheVariants as status
use Rattle.ignite_types.specs.declared.scenario.Scenario.{Scenario}
use Rattle.std.specs.Io.KnownBytes.{append_known, IsAtEnd}
use Rattle.run_promises.proofs.RunPromises.{promised}
use Rattle.scen_text.specs.Reading.{scenario_of}
use Rattle.scen_text.specs.Causes.{refusal_text}
use Rattle.scen_text.specs.declared.cause.Cause.{Cause}
use Rattle.scen_text.specs.declared.cause.Cause.TheVariants.{TooLong}
use Rattle.std.proofs.lemmas.Bool.{lt-ltb}
use Rattle.sim_top.specs.Sim.{IsRefused, LineSays, ReadSays, RefusalSays, Runs, RunSays, OutOfMemory, Follow, Means, Comes, Ends, Reading, Tells, Writing, SaysIn, usage_text}
use Rattle.sim_top.specs.Asked.{options_asked}
use Rattle.sim_top.specs.Told.{output_text}
use Rattle.sim_top.specs.declared.options.Form.{Form}
use Rattle.sim_top.specs.declared.options.Form.TheVariants as form
use Rattle.sim_top.specs.declared.options.Options.{Options}
use Rattle.sim_top.specs.Drive.{Follows, PastFollows}
use Rattle.sim_top.proofs.DriveLaws.{are_picked}
use Rattle.tx_model.specs.Opening.{opening}
use Rattle.tx_model.specs.Runs.{EndsAt, IsLegal}
use Rattle.tx_model.specs.World.{World, all_sessions_over, possible}
use Rattle.world_core.specs.Run.{Run}

-- a run that is told is what it says
pub runs_told : (o : Options) (s : Status) (j : Journal) (text : List ℕ) → Runs o s j → text ≡ output_text o j →
    RunSays o j.scenario s j text
runs_told o status.AllEnded j text runs said = (refl, runs, said)
runs_told o status.Stalled j text runs said = (refl, runs, said)
runs_told o status.StepLimit j text runs said = (refl, runs, said)
runs_told o status.Usage j text runs said = absurd runs
runs_told o status.Refused j text runs said = absurd runs
runs_told o status.Memory j text runs said = absurd runs
runs_told o status.ReadFault j text runs said = absurd runs
runs_told o status.WriteFault j text runs said = absurd runs

-- a run that found no memory for its report
pub runs_untold : (o : Options) (s : Status) (j : Journal) → Runs o s j → OutOfMemory o j []
runs_untold o status.AllEnded j runs = record { steps = runs.0.legal.steps; schedule = runs.0.schedule; nothing = refl }
runs_untold o status.Stalled j runs = record { steps = runs.0.legal.steps; schedule = runs.0.schedule; nothing = refl }
runs_untold o status.StepLimit j runs = record { steps = runs.0.legal.steps; schedule = runs.0.schedule; nothing = refl }
runs_untold o status.Usage j runs = absurd runs
runs_untold o status.Refused j runs = absurd runs
runs_untold o status.Memory j runs = absurd runs
runs_untold o status.ReadFault j runs = absurd runs
runs_untold o status.WriteFault j runs = absurd runs

-- no run was made for want of memory
pub untold : (o : Options) (j : Journal) (text : List ℕ) → Tells [] j text → OutOfMemory o j text
untold o j text tells = record { steps = rw tells.no_run tt; schedule = rw tells.no_run tt; nothing = tells.is }

-- what a refusal of the bytes comes to is what the bytes mean
pub refusal_means : (o : Options) (bytes : List ℕ) (line : ℕ) (cause : Cause) (s : Status) (j : Journal) (text : List ℕ) →
    scenario_of bytes ≡ Err (record { line = line; cause = cause }) → RefusalSays line cause s j text → Means o bytes s j text
refusal_means o bytes line cause status.AllEnded j text read says = absurd says
refusal_means o bytes line cause status.Stalled j text read says = absurd says
refusal_means o bytes line cause status.StepLimit j text read says = absurd says
refusal_means o bytes line cause status.Usage j text read says = absurd says
refusal_means o bytes line cause status.Refused j text read says =
    (record { refusal = record { line = line; cause = cause }; refused = read; line = says.is }, says.no_run)
refusal_means o bytes line cause status.Memory j text read says = untold o j text says
refusal_means o bytes line cause status.ReadFault j text read says = absurd says
refusal_means o bytes line cause status.WriteFault j text read says = absurd says

-- what the scenario of the bytes comes to is what the bytes mean
pub run_means : (o : Options) (bytes : List ℕ) (scenario : Scenario) (s : Status) (j : Journal) (text : List ℕ) →
    scenario_of bytes ≡ Ok scenario → RunSays o scenario s j text → Means o bytes s j text
run_means o bytes scenario status.AllEnded j text read says = (rw says.0 read, says.1, says.2)
run_means o bytes scenario status.Stalled j text read says = (rw says.0 read, says.1, says.2)
run_means o bytes scenario status.StepLimit j text read says = (rw says.0 read, says.1, says.2)
run_means o bytes scenario status.Usage j text read says = absurd says
run_means o bytes scenario status.Refused j text read says = absurd says
run_means o bytes scenario status.Memory j text read says = says
run_means o bytes scenario status.ReadFault j text read says = absurd says
run_means o bytes scenario status.WriteFault j text read says = absurd says

-- the whole text was written
pub all_written : (words : List (List ℕ)) (r : Reading) (w : Writing) (s : Status) (j : Journal) (text : List ℕ) →
    Comes words r s j text → w.after ≡ append_known w.before text → Ends words r w s j
all_written words r w status.AllEnded j text comes held = record { text = text; comes = comes; held = held }
all_written words r w status.Stalled j text comes held = record { text = text; comes = comes; held = held }
all_written words r w status.StepLimit j text comes held = record { text = text; comes = comes; held = held }
all_written words r w status.Usage j text comes held = record { text = text; comes = comes; held = held }
all_written words r w status.Refused j text comes held = record { text = text; comes = comes; held = held }
all_written words r w status.Memory j text comes held = record { text = text; comes = comes; held = held }
all_written words r w status.ReadFault j text comes held = record { text = text; comes = comes; held = held }
all_written words r w status.WriteFault j text comes held = absurd comes

-- a text of too many bytes is refused as such
too_long : (bytes : List ℕ) → 1048576 < length bytes → scenario_of bytes ≡ Err (record { line = 0; cause = TooLong })
too_long bytes more = rw (lt-ltb 1048576 (length bytes) more) refl

too_long_refused : (before : Option (List ℕ)) (text : List ℕ) → IfSome before (λ bytes. 1048576 < length bytes) →
    text ≡ refusal_text 0 TooLong → IfSome before (λ bytes. IsRefused bytes text)
too_long_refused None text more said = tt
too_long_refused (Some bytes) text more said = record {
  refusal = record { line = 0; cause = TooLong };
  refused =
      too_long bytes more;
  line = said;
}

pub too_long_says : (o : Options) (r : Reading) (s : Status) (j : Journal) (text : List ℕ) →
    IfSome r.before (λ bytes. 1048576 < length bytes) → RefusalSays 0 TooLong s j text → ReadSays o r s j text
too_long_says o r status.AllEnded j text more says = absurd says
too_long_says o r status.Stalled j text more says = absurd says
too_long_says o r status.StepLimit j text more says = absurd says
too_long_says o r status.Usage j text more says = absurd says
too_long_says o r status.Refused j text more says = record {
  refused = too_long_refused r.before text more says.is;
  no_run =
      says.no_run;
}
too_long_says o r status.Memory j text more says = untold o j text says
too_long_says o r status.ReadFault j text more says = absurd says
too_long_says o r status.WriteFault j text more says = absurd says

-- what holds of the bytes that were read holds of those that were told
of_told : (before : Option (List ℕ)) (P : List ℕ → Type 0) (bytes : List ℕ) → IfSome before (λ told. bytes ≡ told) → P bytes →
    IfSome before P
of_told None P bytes read holds = tt
of_told (Some told) P bytes read holds = subst P read holds

-- reading comes to what the bytes that were read mean
pub meant_says : (o : Options) (r : Reading) (s : Status) (j : Journal) (text bytes : List ℕ) → IsAtEnd r.after →
    IfSome r.before (λ told. bytes ≡ told) → Means o bytes s j text → ReadSays o r s j text
meant_says o r status.AllEnded j text bytes ended read means =
    record {
      read_out = ended;
      means = of_told r.before (λ told. Means o told status.AllEnded j text) bytes read means;
      runs =
          (means.1, means.2);
    }
meant_says o r status.Stalled j text bytes ended read means =
    record {
      read_out = ended;
      means = of_told r.before (λ told. Means o told status.Stalled j text) bytes read means;
      runs =
          (means.1, means.2);
    }
meant_says o r status.StepLimit j text bytes ended read means =
    record {
      read_out = ended;
      means = of_told r.before (λ told. Means o told status.StepLimit j text) bytes read means;
      runs = (means.1, means.2);
    }
meant_says o r status.Usage j text bytes ended read means = absurd means
meant_says o r status.Refused j text bytes ended read means =
    record { refused = of_told r.before (λ told. IsRefused told text) bytes read means.0; no_run = means.1 }
meant_says o r status.Memory j text bytes ended read means = means
meant_says o r status.ReadFault j text bytes ended read means = absurd means
meant_says o r status.WriteFault j text bytes ended read means = absurd means

-- no run ends by the usage line or a fault of the sink
pub no_usage : (f : Form) (o : Options) (r : Reading) (j : Journal) (text : List ℕ) → SaysIn f o r status.Usage j text → ⊥
no_usage form.Report o r j text says = says
no_usage form.Trace o r j text says = says
no_usage form.Json o r j text says = says
no_usage (form.Summary make) o r j text says = says.says

no_write_fault : (f : Form) (o : Options) (r : Reading) (j : Journal) (text : List ℕ) →
    SaysIn f o r status.WriteFault j text → ⊥
no_write_fault form.Report o r j text says = says
no_write_fault form.Trace o r j text says = says
no_write_fault form.Json o r j text says = says
no_write_fault (form.Summary make) o r j text says = says.says

-- a call whose words ask for a run comes to what the run comes to
pub asked_comes : (words : List (List ℕ)) (o : Options) (r : Reading) (s : Status) (j : Journal) (text : List ℕ) →
    options_asked words ≡ Some o → SaysIn o.form o r s j text → Comes words r s j text
asked_comes words o r status.AllEnded j text meant says = record { options = o; meant = meant; says = says }
asked_comes words o r status.Stalled j text meant says = record { options = o; meant = meant; says = says }
asked_comes words o r status.StepLimit j text meant says = record { options = o; meant = meant; says = says }
asked_comes words o r status.Usage j text meant says = absurd (no_usage o.form o r j text says)
asked_comes words o r status.Refused j text meant says = record { options = o; meant = meant; says = says }
asked_comes words o r status.Memory j text meant says = inl (record { options = o; meant = meant; says = says })
asked_comes words o r status.ReadFault j text meant says = record { options = o; meant = meant; says = says }
asked_comes words o r status.WriteFault j text meant says = absurd (no_write_fault o.form o r j text says)

-- a call of other words is told so
pub usage_comes : (words : List (List ℕ)) (r : Reading) (s : Status) (j : Journal) (text : List ℕ) →
    options_asked words ≡ None → r.after ≡ r.before → r.faults_after ≡ r.faults_before →
    LineSays status.Usage usage_text s j text → Comes words r s j text
usage_comes words r status.AllEnded j text none same same_faults says = absurd says
usage_comes words r status.Stalled j text none same same_faults says = absurd says
usage_comes words r status.StepLimit j text none same same_faults says = absurd says
usage_comes words r status.Usage j text none same same_faults says =
    (none, record { same = same; same_faults = same_faults; no_run = says.no_run; said = says.is })
usage_comes words r status.Refused j text none same same_faults says = absurd says
usage_comes words r status.Memory j text none same same_faults says = inr says
usage_comes words r status.ReadFault j text none same same_faults says = absurd says
usage_comes words r status.WriteFault j text none same same_faults says = absurd says

-- The journal of a run in work, with its end.
abbrev pub ended : Run → End → Journal
ended r e = record { scenario = r.scenario; groups = r.past; end = e }

legal_on : (o : Options) (r : Run) (e : End) → Follows o.seed r → EndsAt r.now e → IsLegal (ended r e)
legal_on o r e h ends = record { steps = h.past.steps; end = subst (λ (w : World). EndsAt w e) h.now ends }

follows_on : (o : Options) (r : Run) (e : End) → Follows o.seed r → EndsAt r.now e → Follow o (ended r e)
follows_on o r e h ends = record {
  legal = legal_on o r e h ends;
  schedule = are_picked o.seed 0 (opening r.scenario) r.past h.past.picked;
  promises = λ is_good few. promised (ended r e) is_good (legal_on o r e h ends) few;
}

pub limit_runs : (o : Options) (r : Run) → Follows o.seed r → (length r.past ≡ o.steps) × (possible r.now ≢ []) →
    Runs o status.StepLimit (ended r end.StepLimit)
limit_runs o r h met = (
  follows_on o r end.StepLimit h h.whole,
  refl,
  record { many = met.0; more = subst (λ (w : World). possible w ≢ []) h.now met.1 },
)

pub over_runs : (o : Options) (r : Run) → Follows o.seed r → possible r.now ≡ [] → all_sessions_over r.now ≡ true →
    Runs o status.AllEnded (ended r end.AllEnded)
over_runs o r h none over = (follows_on o r end.AllEnded h (none, over, h.whole), refl)

pub stalled_runs : (o : Options) (r : Run) → Follows o.seed r → possible r.now ≡ [] → all_sessions_over r.now ≡ false →
    Runs o status.Stalled (ended r end.Stalled)
stalled_runs o r h none over = (follows_on o r end.Stalled h (none, over, h.whole), refl)

-- a run for which memory ran out
pub follows_untold : (o : Options) (r : Run) (e : End) → PastFollows o.seed r → OutOfMemory o (ended r e) []
follows_untold o r e h = record {
  steps = h.steps;
  schedule = are_picked o.seed 0 (opening r.scenario) r.past h.picked;
  nothing = refl;
}
