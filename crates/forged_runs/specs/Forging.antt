-- How a journal is forged: records of a run are changed, dropped or doubled where they stand, and its events stay.
use Rattle.std.specs.List.{flat_map}
use Rattle.std.specs.Prelude.{Bool, [], false, if◌then◌else◌, map, ℕ}
use Rattle.ignite_types.specs.Names.{same_node}
use Rattle.ignite_types.specs.declared.journal.Event.{Event}
use Rattle.ignite_types.specs.declared.journal.Group.{Group}
use Rattle.ignite_types.specs.declared.journal.Journal.{Journal}
use Rattle.ignite_types.specs.declared.journal.Rec.{Rec}
use Rattle.ignite_types.specs.declared.list.List.{List}
use Rattle.ignite_types.specs.declared.scenario.Scenario.{Scenario}
use Rattle.machine_runs.specs.Driver.{journal_at}
use Rattle.machine_runs.specs.Words.{numbered_node}
use Rattle.ignite_types.specs.declared.journal.Event.TheVariants as event

-- what stands in the place of a record
abbrev pub Forgery : Type 0
Forgery = Rec → List Rec

-- the run in which each event is the first possible one
abbrev pub honest : Scenario → Journal
honest s = journal_at [] s

abbrev pub with_forged_recs : Forgery → Group → Group
with_forged_recs forge g = record g { recs = flat_map forge g.recs }

-- the honest journal, each of its records forged
abbrev pub forged : Forgery → Scenario → Journal
forged forge s = record (honest s) { groups = map (with_forged_recs forge) (honest s).groups }

-- the node takes a message
abbrev pub is_taking : ℕ → Event → Bool
is_taking number (event.Act id from) = same_node id (numbered_node number)
is_taking number e = false

abbrev pub with_forged_at : ℕ → Forgery → Group → Group
with_forged_at number forge g = if is_taking number g.event then with_forged_recs forge g else g

-- the honest journal, with what one node noted when it took messages forged
abbrev pub forged_at : ℕ → Forgery → Scenario → Journal
forged_at number forge s = record (honest s) { groups = map (with_forged_at number forge) (honest s).groups }
