-- Which answer a command has to get in place of being done: the refusals, in the order in which they are tried.
use Rattle.std.specs.Option.{option_map}
use Rattle.std.specs.Prelude.{Bool, None, Option, Some, [], false, if◌then◌else◌, is_some, nat_eq, not, true, ◌&&◌, ◌||◌, ◌∷◌}
use Rattle.act_rows.specs.Accesses.{access_key}
use Rattle.ignite_types.specs.Names.{same_node, same_tx}
use Rattle.ignite_types.specs.declared.answer.Answer.{Answer}
use Rattle.ignite_types.specs.declared.answer.Fault.{Fault}
use Rattle.ignite_types.specs.declared.journal.Rec.{Rec}
use Rattle.ignite_types.specs.declared.list.List.{List}
use Rattle.ignite_types.specs.declared.names.TxId.{TxId}
use Rattle.ignite_types.specs.declared.placement.PartMap.{PartMap}
use Rattle.ignite_types.specs.declared.scenario.Command.{Command}
use Rattle.ignite_types.specs.declared.text.Key.{Key}
use Rattle.tx_model.specs.History.{is_access, is_called}
use Rattle.tx_model.specs.declared.walk.Walk.{Walk}
use Rattle.journal_statements.specs.Noted.{Noted}
use Rattle.journal_statements.specs.SameMessages.{same_fail}
use Rattle.journal_statements.specs.Timeouts.{is_past_most, runs_in}
use Rattle.ignite_types.specs.declared.answer.Answer.TheVariants as answer
use Rattle.ignite_types.specs.declared.answer.Fault.TheVariants as fault
use Rattle.ignite_types.specs.declared.scenario.Command.TheVariants as command
use Rattle.ignite_types.specs.declared.journal.Rec.TheVariants as note

-- Commands.

abbrev pub is_begin : Command → Bool
is_begin (command.Begin mode timeout) = true
is_begin c = false

abbrev pub is_ending : Command → Bool
is_ending command.Commit = true
is_ending command.Rollback = true
is_ending c = false

abbrev pub is_rollback : Command → Bool
is_rollback command.Rollback = true
is_rollback command.Close = true
is_rollback c = false

-- the commands by which a fault is told; begin and sleep tell none
abbrev pub tells_fault : Command → Bool
tells_fault c = is_access c || is_ending c || is_rollback c

-- Faults.

abbrev pub same_fault : Fault → Fault → Bool
same_fault (fault.Check why) (fault.Check other) = same_fail why other
same_fault fault.Timeout fault.Timeout = true
same_fault fault.Deadlock fault.Deadlock = true
same_fault (fault.Cut id) (fault.Cut other) = same_node id other
same_fault (fault.NodeLost id) (fault.NodeLost other) = same_node id other
same_fault _ _ = false

-- the transaction's first fault
abbrev pub first_fault : TxId → Option Fault → Rec → Option Fault
first_fault tx None (note.Fault u why) = if same_tx u tx then Some why else None
first_fault tx had r = had

-- a command is taken up in the act of its call, or of the transaction's start where that comes later
abbrev pub is_taking_up : TxId → Rec → Bool
is_taking_up tx (note.Call session c) = is_called tx session
is_taking_up tx (note.Start u top) = same_tx u tx
is_taking_up tx r = false

-- `now` is the fault that the transaction has so far, `then_had` the one that it had when the last command was taken up
abbrev pub fault_taken_up : TxId → Option Fault → Option Fault → List Noted → Option Fault
fault_taken_up tx now then_had [] = then_had
fault_taken_up tx now then_had (n ∷ ns) =
    fault_taken_up tx (first_fault tx now n.rec) (if is_taking_up tx n.rec then now else then_had) ns

-- the fault that a block's transaction had when its pending command was taken up; an open block was told none yet
abbrev pub untold_fault : TxId → List Noted → Walk → Option Fault
untold_fault tx before w = if w.block then fault_taken_up tx None None before else None

-- The refusals.

-- behind a told fault, until a commit or a rollback ends the block or a begin starts a new one
abbrev pub skips : Walk → Command → Bool
skips w c = w.skipping && (is_access c || is_ending c)

-- no block is open, and none whose fault was told
abbrev pub has_no_tx : Walk → Command → Bool
has_no_tx w c = is_ending c && not w.block && not w.skipping

abbrev pub has_open_tx : Walk → Command → Bool
has_open_tx w c = is_begin c && w.block

-- the key's cache is not one of the version
abbrev pub lacks_cache : Option PartMap → Walk → Key → Bool
lacks_cache m w key = is_some w.top && not (runs_in m key)

abbrev pub rolls_back : Walk → Command → Bool
rolls_back w c = is_rollback c && w.block

abbrev pub due_if : Bool → Answer → Option Answer
due_if holds a = if holds then Some a else None

abbrev pub fault_due : Option Fault → Command → Option Answer
fault_due untold c = if tells_fault c then option_map answer.Failed untold else None

abbrev pub cache_due : Option PartMap → Walk → Option Key → Option Answer
cache_due m w None = None
cache_due m w (Some key) = due_if (lacks_cache m w key) (answer.NoCache key.cache)

abbrev pub number_due : Walk → Option Key → Option Answer
number_due w None = None
number_due w (Some key) = due_if (is_past_most w key) answer.TooManyKeys

abbrev pub first_due : List (Option Answer) → Option Answer
first_due [] = None
first_due (None ∷ rest) = first_due rest
first_due (Some a ∷ rest) = Some a

-- the answer that is due in place of the defined one, if any, by the map of the transaction's version and its untold fault
abbrev pub refusal_due : Option PartMap → Option Fault → Walk → Command → Option Answer
refusal_due m untold w c = first_due (
    due_if (skips w c) answer.Skipped
    ∷ due_if (has_no_tx w c) answer.NoTransaction
    ∷ due_if (has_open_tx w c) answer.TransactionOpen
    ∷ fault_due untold c
    ∷ cache_due m w (access_key c)
    ∷ number_due w (access_key c)
    ∷ due_if (rolls_back w c) answer.RolledBack
    ∷ [])

-- of the answers that may be due
abbrev pub same_refused : Answer → Answer → Bool
same_refused answer.Skipped answer.Skipped = true
same_refused answer.NoTransaction answer.NoTransaction = true
same_refused answer.TransactionOpen answer.TransactionOpen = true
same_refused (answer.Failed why) (answer.Failed other) = same_fault why other
same_refused (answer.NoCache cache) (answer.NoCache other) = nat_eq cache other
same_refused answer.TooManyKeys answer.TooManyKeys = true
same_refused answer.RolledBack answer.RolledBack = true
same_refused _ _ = false
