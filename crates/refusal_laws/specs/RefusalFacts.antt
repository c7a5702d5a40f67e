-- What is known of the plan's steps and the directory's members, by the records so far.
use Rattle.std.specs.List.{list_all}
use Rattle.std.specs.Prelude.{Bool, false, true, ◌≡◌}
use Rattle.ignite_types.specs.declared.journal.Event.{Event}
use Rattle.ignite_types.specs.declared.journal.Rec.{Rec}
use Rattle.ignite_types.specs.declared.list.List.{List}
use Rattle.ignite_types.specs.declared.scenario.Scenario.{Scenario}
use Rattle.journal_statements.specs.Noted.{Noted}
use Rattle.journal_statements.specs.Refusals.{members_behind}
use Rattle.tx_model.specs.World.{Outcome, World}
use Rattle.ignite_types.specs.declared.journal.Event.TheVariants as event
use Rattle.ignite_types.specs.declared.journal.Rec.TheVariants as note

-- a record of no step of the plan
abbrev pub says_no_step : Rec → Bool
says_no_step (note.Planned place refused) = false
says_no_step _ = true

-- the event has no step of the plan in its records, and changes no member
abbrev pub LeavesPlan : World → Outcome → Type 0
LeavesPlan w o = (list_all says_no_step o.recs ≡ true) × (o.world.directory.members ≡ w.directory.members)

-- the members of the directory are those that the plan's records tell
abbrev pub MembersAreTold : Scenario → List Noted → World → Type 0
MembersAreTold s recs w = members_behind s recs ≡ w.directory.members

abbrev pub is_step_event : Event → Bool
is_step_event event.Plan = true
is_step_event _ = false
