-- Words in which scenarios, and what their runs come to, read well. All keys are in the one cache.
use Prim.Native.String.{String}
use Rattle.std.specs.Prelude.{List, None, Option, Some, [], codes, false, pos, true, ℕ, ◌-ℤ◌, ◌∷◌}
use Rattle.ignite_types.specs.declared.answer.Answer.{Answer}
use Rattle.ignite_types.specs.declared.message.Wait.{Wait}
use Rattle.ignite_types.specs.declared.names.NodeId.{NodeId}
use Rattle.ignite_types.specs.declared.names.TopVer.{TopVer}
use Rattle.ignite_types.specs.declared.names.TxId.{TxId}
use Rattle.ignite_types.specs.declared.scenario.Item.{Item}
use Rattle.ignite_types.specs.declared.scenario.Member.{Member}
use Rattle.ignite_types.specs.declared.scenario.PlanStep.{PlanStep}
use Rattle.ignite_types.specs.declared.scenario.Scenario.{Scenario}
use Rattle.ignite_types.specs.declared.scenario.Session.{Session}
use Rattle.ignite_types.specs.declared.scenario.Step.{Step}
use Rattle.ignite_types.specs.declared.text.Key.{Key}
use Rattle.tx_model.specs.declared.history.CommitEntry.{CommitEntry}
use Rattle.ignite_types.specs.declared.answer.Answer.TheVariants as answer
use Rattle.ignite_types.specs.declared.answer.Fail.TheVariants as fail
use Rattle.ignite_types.specs.declared.answer.Fault.TheVariants as fault
use Rattle.ignite_types.specs.declared.scenario.Command.TheVariants as command
use Rattle.ignite_types.specs.declared.scenario.Item.TheVariants as item
use Rattle.ignite_types.specs.declared.scenario.Mode.TheVariants as mode
use Rattle.ignite_types.specs.declared.scenario.Step.TheVariants as step

-- Names.

abbrev pub plain_key : String → Key
plain_key text = record { cache = 0; text = codes text }

abbrev pub numbered_node : ℕ → NodeId
numbered_node number = record { 0 = number }

abbrev pub version : ℕ → ℕ → TopVer
version major minor = record { major = major; minor = minor }

-- the session's transaction with this number, on this node
abbrev pub tx : ℕ → ℕ → ℕ → TxId
tx on session number = record { node = numbered_node on; session = session; number = number }

-- Scenarios.

abbrev pub numbered_server : ℕ → Member
numbered_server number = record { node = numbered_node number; server = true }

abbrev pub numbered_client : ℕ → Member
numbered_client number = record { node = numbered_node number; server = false }

abbrev pub join : Member → Step
join member = step.Join member

abbrev pub lose : ℕ → Step
lose number = step.Lose (numbered_node number)

-- the link from one node to another
abbrev pub hold : ℕ → ℕ → Step
hold from to = step.Hold (numbered_node from) (numbered_node to)

abbrev pub release : ℕ → ℕ → Step
release from to = step.Release (numbered_node from) (numbered_node to)

abbrev pub from_moment : ℕ → Step → PlanStep
from_moment moment s = record { moment = moment; step = s }

abbrev pub begin : Item
begin = item.Plain (command.Begin mode.Pessimistic 0)

-- with a timeout
abbrev pub begin_within : ℕ → Item
begin_within moments = item.Plain (command.Begin mode.Pessimistic moments)

abbrev pub begin_optimistic : Item
begin_optimistic = item.Plain (command.Begin mode.Optimistic 0)

abbrev pub get : String → Item
get text = item.Plain (command.Get (plain_key text))

abbrev pub put_item : String → String → Item
put_item text value = item.Plain (command.Put (plain_key text) (codes value))

abbrev pub remove : String → Item
remove text = item.Plain (command.Remove (plain_key text))

-- adds a number to the key's value
abbrev pub give : String → ℕ → Item
give text sum = item.Plain (command.Add (plain_key text) (pos sum))

-- adds its negative
abbrev pub take : String → ℕ → Item
take text sum = item.Plain (command.Add (plain_key text) (pos 0 -ℤ pos sum))

abbrev pub commit : Item
commit = item.Plain command.Commit

abbrev pub sleep : ℕ → Item
sleep moments = item.Plain (command.Sleep moments)

abbrev pub session_on : String → ℕ → List Item → Session
session_on name on commands = record { name = codes name; node = numbered_node on; commands = commands }

-- one cache with so many partitions and backups, and no near entries
abbrev pub scenario : ℕ → ℕ → List Member → List PlanStep → List Session → Scenario
scenario parts backups nodes plan sessions = record {
  format = 1;
  caches = record {
    name = codes "default";
    parts = parts;
    backups = backups;
    near = 0;
    first = true;
    «data» = false;
  } ∷ [];
  nodes = nodes;
  plan = plan;
  sessions = sessions;
}

-- What runs come to.

abbrev pub ok : Answer
ok = answer.Done

abbrev pub found_value : String → Answer
found_value text = answer.Found (codes text)

abbrev pub none : Answer
none = answer.Absent

abbrev pub told_committed : Answer
told_committed = answer.Committed

abbrev pub skipped : Answer
skipped = answer.Skipped

-- the primary of one of its keys was lost
abbrev pub node_lost : ℕ → Answer
node_lost number = answer.Failed (fault.NodeLost (numbered_node number))

abbrev pub told_deadlock : Answer
told_deadlock = answer.Failed fault.Deadlock

-- another transaction holds the key
abbrev pub locked : String → TxId → Answer
locked text holder = answer.Failed (fault.Check (fail.Candidate (plain_key text) holder))

-- the key was read with the order `had` and has the order `has`, both drawn at version 1.0 by node 1
abbrev pub told_changed : String → ℕ → ℕ → Answer
told_changed text had has = answer.Failed (fault.Check (fail.Changed
    (plain_key text)
    (record { top = version 1 0; order = had; node = numbered_node 1 })
    (record { top = version 1 0; order = has; node = numbered_node 1 })))

-- a read or a write of a value
abbrev pub pair_of : String → String → Key × Option (List ℕ)
pair_of text value = (plain_key text, Some (codes value))

-- a read that found nothing, or a removal
abbrev pub absent : String → Key × Option (List ℕ)
absent text = (plain_key text, None)

abbrev pub commit_entry : TxId → TopVer → List (Key × Option (List ℕ)) → List (Key × Option (List ℕ)) → CommitEntry
commit_entry name top reads writes = record { tx = name; top = top; reads = reads; writes = writes }

-- a transaction waits at a key for the one that holds it
abbrev pub waits : String → TxId → TxId → Wait
waits text waiter holder = record { key = plain_key text; waiter = waiter; holder = holder }

-- a key of the map with its value
abbrev pub map_pair : String → String → Key × List ℕ
map_pair text value = (plain_key text, codes value)
