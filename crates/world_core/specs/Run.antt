-- A run in work: its scenario, the world as it is now, and the groups so far.
use Rattle.std.specs.Prelude.{◌≡◌, List, [], ◌∷◌, ◌++◌, Option, Some, None}
use Rattle.part_model.specs.Directory.{event_at}
use Rattle.ignite_types.specs.declared.journal.Event.{Event}
use Rattle.ignite_types.specs.declared.journal.Group.{Group}
use Rattle.ignite_types.specs.declared.journal.TopoEvent.{TopoEvent}
use Rattle.ignite_types.specs.declared.scenario.Scenario.{Scenario}
use Rattle.tx_model.specs.Opening.{opening}
use Rattle.tx_model.specs.World.{Part, World, outcome}

pub record Run : Type 0 where
  pub scenario : Scenario
  pub now : World
  pub past : List Group

-- before the first event
abbrev pub run_begun : Scenario → Run
run_begun scenario = record { scenario = scenario; now = opening scenario; past = [] }

-- after one more event
abbrev pub run_after : Run → Event → Run
run_after r e =
    record {
      scenario = r.scenario;
      now = (outcome r.now e).world;
      past =
          r.past ++ record { event = e; recs = (outcome r.now e).recs } ∷ [];
    }

-- what want of memory leaves
pub record KeepsPast (old new : Run) : Type 0 where
  pub scenario : new.scenario ≡ old.scenario
  pub past : new.past ≡ old.past

-- the topology event that a node has to read next
abbrev pub next_for : World → Option Part → Option TopoEvent
next_for w None = None
next_for w (Some p) = event_at w.directory p.node.read
