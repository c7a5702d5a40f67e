-- What a session is told agrees with the history: each access is answered by the value before it, and who is told committed is
-- committed.
use Rattle.std.specs.Cmp.Lexicographic.{pointwise}
use Rattle.std.specs.List.{list_all}
use Rattle.std.specs.Prelude.{Bool, Err, None, Ok, Option, Result, Some, false, if◌then◌else◌, nat_eq, not, true, ℕ, ◌&&◌, ◌||◌}
use Rattle.act_rows.specs.Accesses.{answer_of_value}
use Rattle.part_model.specs.Numbers.{sum_with_value}
use Rattle.part_model.specs.Orders.{is_node}
use Rattle.ignite_types.specs.declared.answer.Answer.{Answer}
use Rattle.ignite_types.specs.declared.journal.Journal.{Journal}
use Rattle.ignite_types.specs.declared.journal.Rec.{Rec}
use Rattle.ignite_types.specs.declared.list.List.{List}
use Rattle.ignite_types.specs.declared.names.NodeId.{NodeId}
use Rattle.ignite_types.specs.declared.names.TxId.{TxId}
use Rattle.ignite_types.specs.declared.scenario.Command.{Command}
use Rattle.tx_model.specs.History.{is_access, is_bare, is_done, known_value}
use Rattle.tx_model.specs.declared.walk.Walk.{Walk}
use Rattle.journal_statements.specs.Noted.{Noted, is_committed_before, noted}
use Rattle.journal_statements.specs.Walks.{Answered, each_answer, with_command}
use Rattle.ignite_types.specs.declared.answer.Answer.TheVariants as answer
use Rattle.ignite_types.specs.declared.scenario.Command.TheVariants as command
use Rattle.ignite_types.specs.declared.message.Message.TheVariants as msg
use Rattle.ignite_types.specs.declared.journal.Rec.TheVariants as note

abbrev pub sum_answer : Result (List ℕ) Answer → Answer
sum_answer (Ok value) = answer.Found value
sum_answer (Err why) = why

-- the answer of an access by the value before it
abbrev pub access_answer : Walk → Command → Answer
access_answer w (command.Get key) = answer_of_value (known_value w key)
access_answer w (command.Add key amount) = sum_answer (sum_with_value (known_value w key) amount)
access_answer w c = answer.Done

-- of answers by which an access is done
abbrev pub same_done : Answer → Answer → Bool
same_done answer.Done answer.Done = true
same_done (answer.Found a) (answer.Found b) = pointwise nat_eq a b
same_done answer.Absent answer.Absent = true
same_done answer.NotNumber answer.NotNumber = true
same_done answer.Overflow answer.Overflow = true
same_done _ _ = false

abbrev pub access_fits : Walk → Command → Answer → Bool
access_fits w c a = not (is_access c && is_done a) || same_done a (access_answer w c)

-- Closing answers: whether a transaction is told committed by one, or anything else; none where it goes on.

abbrev pub block_closing : Answer → Option Bool
block_closing answer.Committed = Some true
block_closing answer.RolledBack = Some false
block_closing (answer.Failed why) = Some false
block_closing _ = None

-- of a bare access each answer is a closing one
abbrev pub bare_closing : Answer → Option Bool
bare_closing answer.Done = Some true
bare_closing (answer.Found value) = Some true
bare_closing answer.Absent = Some true
bare_closing _ = Some false

abbrev pub closing : Walk → Command → Answer → Option Bool
closing w c a = if w.block then block_closing a else (if is_bare w c then bare_closing a else None)

abbrev pub is_told_committed : Option Bool → Bool
is_told_committed None = false
is_told_committed (Some committed) = committed

-- the commit decision stands before that answer; after any other closing answer there is none in the whole journal
abbrev pub closing_fits : Bool → Walk → Option Bool → Bool
closing_fits ever w None = true
closing_fits ever w (Some true) = w.committed
closing_fits ever w (Some false) = not ever

-- `whole` are all records of the journal, since no commit decision may stand behind the answer either
abbrev pub answer_told : List Noted → Answered → Command → Bool
answer_told whole a c = access_fits a.walk c a.answer
    && closing_fits (is_committed_before whole a.tx) a.walk (closing a.walk c a.answer)

-- each answered access answers what the footprint's values say, and each closing answer what was decided
abbrev pub calls_told : Journal → Bool
calls_told j = let whole = noted j.scenario j.groups in
    each_answer (λ (a : Answered). with_command true (answer_told whole a) a.walk.called) j

-- Finds.

abbrev pub found_for : Rec → Option TxId
found_for (note.Deliver from (msg.LockOk tx key found)) = Some tx
found_for (note.Deliver from (msg.GetOk tx key found)) = Some tx
found_for r = None

abbrev pub is_at_starter : Option NodeId → Option TxId → Bool
is_at_starter who None = true
is_at_starter who (Some tx) = is_node tx.node who

-- what is found for a transaction is delivered to its starter
abbrev pub finds_reach_starters : Journal → Bool
finds_reach_starters j = list_all (λ (n : Noted). is_at_starter n.node (found_for n.rec)) (noted j.scenario j.groups)

abbrev pub answers_told : Journal → Bool
answers_told j = calls_told j && finds_reach_starters j
