-- Each answer has its cause: where a refusal is due it is the answer, else the command is done as it is defined, or a fault
-- that
-- came on the way is told. Each fault has its cause, and plan steps are refused exactly where they have to be.
use Rattle.std.specs.List.{list_any}
use Rattle.std.specs.Prelude.{Bool, None, Option, Some, false, true, ◌&&◌, ◌||◌}
use Rattle.ignite_types.specs.Names.{same_tx}
use Rattle.ignite_types.specs.declared.answer.Answer.{Answer}
use Rattle.ignite_types.specs.declared.answer.Fault.{Fault}
use Rattle.ignite_types.specs.declared.journal.Journal.{Journal}
use Rattle.ignite_types.specs.declared.journal.Rec.{Rec}
use Rattle.ignite_types.specs.declared.list.List.{List}
use Rattle.ignite_types.specs.declared.names.TxId.{TxId}
use Rattle.ignite_types.specs.declared.placement.PartMap.{PartMap}
use Rattle.ignite_types.specs.declared.scenario.Command.{Command}
use Rattle.tx_model.specs.History.{is_access, is_bare}
use Rattle.tx_model.specs.declared.walk.Walk.{Walk}
use Rattle.journal_statements.specs.AnswersDue.{refusal_due, same_fault, same_refused, untold_fault}
use Rattle.journal_statements.specs.Faults.{faults_fit}
use Rattle.journal_statements.specs.Noted.{Noted, maps_installed, noted}
use Rattle.journal_statements.specs.Refusals.{refusals_fit}
use Rattle.journal_statements.specs.Timeouts.{map_for}
use Rattle.journal_statements.specs.Told.{access_fits}
use Rattle.journal_statements.specs.Walks.{Answered, each_answer, with_command}
use Rattle.ignite_types.specs.declared.answer.Answer.TheVariants as answer
use Rattle.ignite_types.specs.declared.scenario.Command.TheVariants as command
use Rattle.ignite_types.specs.declared.journal.Rec.TheVariants as note

-- the answers of a command that is done; its value is another matter
abbrev pub is_ok : Command → Answer → Bool
is_ok (command.Begin mode timeout) answer.Done = true
is_ok (command.Get key) (answer.Found value) = true
is_ok (command.Get key) answer.Absent = true
is_ok (command.Put key value) answer.Done = true
is_ok (command.Remove key) answer.Done = true
is_ok (command.Add key amount) (answer.Found value) = true
is_ok (command.Add key amount) answer.NotNumber = true
is_ok (command.Add key amount) answer.Overflow = true
is_ok command.Commit answer.Committed = true
is_ok (command.Sleep moments) answer.Done = true
is_ok c a = false

abbrev pub is_that_fault : TxId → Fault → Rec → Bool
is_that_fault tx why (note.Fault u other) = same_tx u tx && same_fault why other
is_that_fault tx why r = false

-- accesses and commits take time, so that a fault may come on the way
abbrev pub meets_fault : Walk → Command → Bool
meets_fault w command.Commit = w.block
meets_fault w c = is_access c && (w.block || is_bare w c)

-- no refusal is due: the fault that came, or what is defined, by the value before an access
abbrev pub done_or_failed : TxId → List Noted → Walk → Command → Answer → Bool
done_or_failed tx before w c (answer.Failed why) =
    meets_fault w c && list_any (λ (n : Noted). is_that_fault tx why n.rec) before
done_or_failed tx before w c a = is_ok c a && access_fits w c a

abbrev pub is_due_or_done : Answered → Command → Option Answer → Bool
is_due_or_done a c None = done_or_failed a.tx a.before a.walk c a.answer
is_due_or_done a c (Some due) = same_refused due a.answer

abbrev pub answer_fits : List PartMap → Answered → Command → Bool
answer_fits maps a c =
    is_due_or_done a c (refusal_due (map_for maps a.walk) (untold_fault a.tx a.before a.walk) a.walk c)

-- each answer is the refusal that is due, or else the defined one or a fault
abbrev pub answers_fit : Journal → Bool
answers_fit j = let maps = maps_installed j.scenario (noted j.scenario j.groups) in
    each_answer (λ (a : Answered). with_command false (answer_fits maps a) a.walk.called) j

abbrev pub causes : Journal → Bool
causes j = answers_fit j && faults_fit j && refusals_fit j
