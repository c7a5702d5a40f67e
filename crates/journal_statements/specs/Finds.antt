-- The finds of a transaction in plain words, against what its walk makes of them: what an answer brought first, or a near hit.
use Rattle.std.specs.List.{list_any}
use Rattle.std.specs.Prelude.{Bool, None, Option, Some, [], false, if◌then◌else◌, is_none, not, true, ◌&&◌, ◌++◌, ◌||◌, ◌∷◌}
use Rattle.part_model.specs.Copies.{Found}
use Rattle.ignite_types.specs.Names.{key_cmp, same_key, same_tx}
use Rattle.ignite_types.specs.declared.journal.Journal.{Journal}
use Rattle.ignite_types.specs.declared.journal.Rec.{Rec}
use Rattle.ignite_types.specs.declared.list.List.{List}
use Rattle.ignite_types.specs.declared.names.TxId.{TxId}
use Rattle.ignite_types.specs.declared.scenario.Command.{Command}
use Rattle.ignite_types.specs.declared.text.Key.{Key}
use Rattle.ordered_table.specs.Entries.{at}
use Rattle.tx_model.specs.History.{find_of, found_after_update, is_done}
use Rattle.tx_model.specs.declared.walk.Walk.{Walk}
use Rattle.journal_statements.specs.AnswersDue.{is_taking_up}
use Rattle.journal_statements.specs.Noted.{Noted, recs_of}
use Rattle.journal_statements.specs.SameMessages.{same_found}
use Rattle.journal_statements.specs.Walks.{Answered, each_answer, with_command}
use Rattle.ignite_types.specs.declared.scenario.Command.TheVariants as command
use Rattle.ignite_types.specs.declared.message.Message.TheVariants as msg
use Rattle.ignite_types.specs.declared.journal.Rec.TheVariants as note

-- Answers.

abbrev pub is_decision_or_fault : TxId → Rec → Bool
is_decision_or_fault tx (note.Decide u commit) = same_tx u tx
is_decision_or_fault tx (note.Fault u why) = same_tx u tx
is_decision_or_fault tx r = false

abbrev pub found_in_rec : TxId → Key → Rec → Option Found
found_in_rec tx key (note.Deliver from (msg.LockOk u k found)) = if same_tx u tx && same_key k key then Some found else None
found_in_rec tx key (note.Deliver from (msg.GetOk u k found)) = if same_tx u tx && same_key k key then Some found else None
found_in_rec tx key r = None

abbrev pub found_or_later : Option Found → Option Found → Option Found
found_or_later None later = later
found_or_later (Some found) later = Some found

-- what the first LockOk or GetOk for the transaction and the key brought, before its decision or fault
abbrev pub first_found : TxId → Key → List Rec → Option Found
first_found tx key [] = None
first_found tx key (r ∷ rs) =
    if is_decision_or_fault tx r then None else found_or_later (found_in_rec tx key r) (first_found tx key rs)

-- Near hits.

-- the near cache is told of the key: by a value that a GetOk brings before its own transaction has a decision or a fault, or by
-- an update
abbrev pub near_after : Key → List Rec → Found → Rec → Found
near_after key before known (note.Deliver from (msg.GetOk u k (Some found))) =
    if same_key k key && not (list_any (is_decision_or_fault u) before) then Some found else known
near_after key before known (note.Deliver from (msg.NearUpdate u k new ver)) =
    if same_key k key then found_after_update new ver else known
near_after key before known r = known

abbrev pub near_over : Key → List Rec → Found → List Rec → Found
near_over key before known [] = known
near_over key before known (r ∷ rs) = near_over key (before ++ r ∷ []) (near_after key before known r) rs

-- the later one of the two that its node was told last
abbrev pub last_told : Key → List Rec → Found
last_told key own = near_over key [] None own

abbrev pub up_to_taking_up : TxId → List Noted → List Noted → List Noted → List Noted
up_to_taking_up tx before taken_up [] = taken_up
up_to_taking_up tx before taken_up (n ∷ ns) =
    up_to_taking_up tx (before ++ n ∷ []) (if is_taking_up tx n.rec then before else taken_up) ns

-- the records before the act in which the pending command was taken up
abbrev pub before_taking_up : TxId → List Noted → List Noted
before_taking_up tx before = up_to_taking_up tx [] [] before

abbrev pub is_question_for : TxId → Key → Rec → Bool
is_question_for tx key (note.Sent to (msg.Lock u top k)) = same_tx u tx && same_key k key
is_question_for tx key (note.Sent to (msg.Get u k near)) = same_tx u tx && same_key k key
is_question_for tx key r = false

-- no answer brought the key: the transaction has asked nobody for it, and finds what its node was told last
abbrev pub is_find : Answered → Key → Found → Option Found → Bool
is_find a key find (Some found) = same_found find found
is_find a key find None = not (list_any (is_question_for a.tx key) (recs_of a.tx.node a.before))
    && same_found find (last_told key (recs_of a.tx.node (before_taking_up a.tx a.before)))

-- a first get or add of the key, behind no own write of it
abbrev pub is_first_read : Walk → Key → Bool
is_first_read w key = is_none (at key_cmp w.reads key) && is_none (at key_cmp w.writes key)

abbrev pub read_fits : Answered → Key → Bool
read_fits a key = not (is_done a.answer) || not (is_first_read a.walk key)
    || is_find a key (find_of a.walk key) (first_found a.tx key (recs_of a.tx.node a.before))

abbrev pub find_fits : Answered → Command → Bool
find_fits a (command.Get key) = read_fits a key
find_fits a (command.Add key amount) = read_fits a key
find_fits a c = true

-- what the walk takes for the find of a first read is the find
abbrev pub finds_fit : Journal → Bool
finds_fit j = each_answer (λ (a : Answered). with_command true (find_fits a) a.walk.called) j
