-- Statements on the transactions of a journal: each record is looked at with the records before it, and with the walk of a
-- transaction up to it.
use Rattle.std.specs.List.{flat_map, list_all}
use Rattle.std.specs.Prelude.{Bool, None, Option, Some, [], if◌then◌else◌, suc, true, zero, ℕ, ◌&&◌, ◌++◌, ◌+◌, ◌==◌, ◌∷◌}
use Rattle.ignite_types.specs.declared.answer.Answer.{Answer}
use Rattle.ignite_types.specs.declared.journal.Group.{Group}
use Rattle.ignite_types.specs.declared.journal.Journal.{Journal}
use Rattle.ignite_types.specs.declared.journal.Rec.{Rec}
use Rattle.ignite_types.specs.declared.list.List.{List}
use Rattle.ignite_types.specs.declared.names.NodeId.{NodeId}
use Rattle.ignite_types.specs.declared.names.TxId.{TxId}
use Rattle.ignite_types.specs.declared.scenario.Command.{Command}
use Rattle.tx_model.specs.History.{fresh_walk, is_called, walk_after_groups, walk_after_record}
use Rattle.tx_model.specs.declared.walk.Walk.{Walk}
use Rattle.journal_statements.specs.Noted.{Noted, noted}
use Rattle.tx_model.specs.Opening.{session_nodes_from}
use Rattle.ignite_types.specs.declared.journal.Rec.TheVariants as note

-- so many transactions of a session, from this number on
abbrev pub txs_from : NodeId → ℕ → ℕ → ℕ → List TxId
txs_from home session number zero = []
txs_from home session number (suc more) =
    record { node = home; session = session; number = number } ∷ txs_from home session (number + 1) more

-- how many transactions a session has started
abbrev pub started_in : List Group → TxId → ℕ
started_in groups tx = (walk_after_groups tx fresh_walk groups).started

-- a session's transactions; number 0 stands for the time before the first one
abbrev pub txs_of_session : List Group → ℕ × NodeId → List TxId
txs_of_session groups home =
    txs_from home.1 home.0 0 (started_in groups (record { node = home.1; session = home.0; number = 0 }) + 1)

abbrev pub txs_of_journal : Journal → List TxId
txs_of_journal j = flat_map (txs_of_session j.groups) (session_nodes_from 1 [] j.scenario.sessions)

-- one record of the walk, which names the node that noted it
abbrev pub walk_on : TxId → Walk → Noted → Walk
walk_on tx w n = walk_after_record tx n.node w n.rec

abbrev pub walk_over : TxId → Walk → List Noted → Walk
walk_over tx w [] = w
walk_over tx w (n ∷ ns) = walk_over tx (walk_on tx w n) ns

-- the walk of the transaction over these records
abbrev pub walk_of_records : TxId → List Noted → Walk
walk_of_records tx recs = walk_over tx fresh_walk recs

abbrev pub Look : Type 0
Look = List Noted → Walk → Rec → Bool

abbrev pub looks_from : Look → TxId → List Noted → Walk → List Noted → Bool
looks_from look tx before w [] = true
looks_from look tx before w (n ∷ ns) = look before w n.rec && looks_from look tx (before ++ n ∷ []) (walk_on tx w n) ns

-- each record is looked at with each transaction
abbrev pub each_with_tx : (TxId → Look) → Journal → Bool
each_with_tx look j = let recs = noted j.scenario j.groups in
    list_all (λ (tx : TxId). looks_from (look tx) tx [] fresh_walk recs) (txs_of_journal j)

-- The answers.

-- An answer, with what was before it.
pub record Answered : Type 0 where
  -- the last transaction that the session has started
  pub tx : TxId
  -- the records before the answer, and the transaction's walk over them
  pub before : List Noted
  pub walk : Walk
  pub answer : Answer

-- the last transaction that the session has started is this one
abbrev pub is_current : TxId → Walk → Bool
is_current tx w = w.started == tx.number

abbrev pub answered_in : TxId → List Noted → Walk → Rec → List Answered
answered_in tx before w (note.Answer session a) =
    if is_called tx session && is_current tx w then record { tx = tx; before = before; walk = w; answer = a } ∷ [] else []
answered_in tx before w r = []

abbrev pub answered_from : TxId → List Noted → Walk → List Noted → List Answered
answered_from tx before w [] = []
answered_from tx before w (n ∷ ns) =
    answered_in tx before w n.rec ++ answered_from tx (before ++ n ∷ []) (walk_on tx w n) ns

-- the answers to a session while this was the last transaction that it had started
abbrev pub answers_while : List Noted → TxId → List Answered
answers_while recs tx = answered_from tx [] fresh_walk recs

-- all answers, by transaction
abbrev pub answers_of_journal : Journal → List Answered
answers_of_journal j = let recs = noted j.scenario j.groups in flat_map (answers_while recs) (txs_of_journal j)

-- each answer is looked at with the command that it answers; an answer to nothing is `other`
abbrev pub with_command : Bool → (Command → Bool) → Option Command → Bool
with_command other look None = other
with_command other look (Some c) = look c

abbrev pub each_answer : (Answered → Bool) → Journal → Bool
each_answer look j = list_all look (answers_of_journal j)
