-- Forgeries of runs in which a transaction touches as many keys as it may, and then one more.
use Rattle.std.specs.Prelude.{[], codes, false, if◌then◌else◌, nat_eq, suc, zero, ℕ, ◌*◌, ◌+◌, ◌++◌, ◌∷◌}
use Rattle.ignite_types.specs.declared.answer.Fault.{Fault}
use Rattle.ignite_types.specs.declared.journal.Journal.{Journal}
use Rattle.ignite_types.specs.declared.list.List.{List}
use Rattle.ignite_types.specs.declared.scenario.Item.{Item}
use Rattle.ignite_types.specs.declared.scenario.Scenario.{Scenario}
use Rattle.act_rows.specs.Accesses.{most_keys}
use Rattle.forged_runs.specs.Forging.{Forgery, forged}
use Rattle.machine_runs.specs.Words.{from_moment, lose, numbered_node, numbered_server, scenario, session_on, sleep, tx}
use Rattle.ignite_types.specs.declared.answer.Answer.TheVariants as answer
use Rattle.ignite_types.specs.declared.answer.Fault.TheVariants as fault
use Rattle.ignite_types.specs.declared.scenario.Command.TheVariants as command
use Rattle.ignite_types.specs.declared.scenario.Item.TheVariants as item
use Rattle.ignite_types.specs.declared.scenario.Mode.TheVariants as mode
use Rattle.ignite_types.specs.declared.journal.Rec.TheVariants as note

-- a put of the key whose one byte is this
abbrev pub put_byte : ℕ → Item
put_byte byte = item.Plain (command.Put (record { cache = 0; text = byte ∷ [] }) (codes "1"))

-- puts of so many keys of the first one of two partitions, the bytes of which are even
abbrev pub puts_of_even : ℕ → List Item
puts_of_even zero = []
puts_of_even (suc more) = put_byte (2 * more + 2) ∷ puts_of_even more

abbrev pub begin_optimistic_within : ℕ → Item
begin_optimistic_within moments = item.Plain (command.Begin mode.Optimistic moments)

-- as many keys as a transaction may have; then the session sleeps, and puts one key more, of the second partition
abbrev pub block_and_one_more : ℕ → List Item
block_and_one_more moments = begin_optimistic_within moments ∷ puts_of_even most_keys ++ sleep 5 ∷ put_byte 1 ∷ []

-- the deadline passes while it sleeps
abbrev pub deadline_and_one_more : Scenario
deadline_and_one_more = scenario 2 0 (numbered_server 1 ∷ []) [] (session_on "A" 1 (block_and_one_more 2) ∷ [])

-- the untold timeout is passed over
abbrev pub answers_too_many : Forgery
answers_too_many (note.Answer session (answer.Failed why)) = note.Answer session answer.TooManyKeys ∷ []
answers_too_many r = r ∷ []

abbrev pub too_many_for_fault : Journal
too_many_for_fault = forged answers_too_many deadline_and_one_more

-- the primary of the key that is one too many is lost while it sleeps
abbrev pub loss_and_one_more : Scenario
loss_and_one_more = scenario 2 1 (numbered_server 1 ∷ numbered_server 4 ∷ []) (from_moment 1 (lose 4) ∷ [])
    (session_on "A" 1 (block_and_one_more 0) ∷ [])

abbrev pub byte_of : List ℕ → ℕ
byte_of (byte ∷ []) = byte
byte_of text = zero

abbrev pub loss_of_primary : Fault
loss_of_primary = fault.NodeLost (numbered_node 4)

-- the loss is told in place of the number of keys
abbrev pub answers_lost : Forgery
answers_lost (note.Call session (command.Put key value)) = if nat_eq (byte_of key.text) 1
    then note.Call session (command.Put key value) ∷ note.Fault (tx 1 1 1) loss_of_primary ∷ note.Decide (tx 1 1 1) false ∷ []
    else note.Call session (command.Put key value) ∷ []
answers_lost (note.Answer session answer.TooManyKeys) = note.Answer session (answer.Failed loss_of_primary) ∷ []
answers_lost r = r ∷ []

abbrev pub lost_for_too_many : Journal
lost_for_too_many = forged answers_lost loss_and_one_more
