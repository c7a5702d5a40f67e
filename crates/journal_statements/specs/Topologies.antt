-- The topology events of a journal, the versions that they make, and what a node has seen of them.
use Rattle.std.specs.List.{find, flat_map}
use Rattle.std.specs.Prelude.{None, Option, Some, [], slice_get, take, ℕ, ◌+◌, ◌∷◌}
use Rattle.part_model.specs.Directory.{first_top, members_after, running_after, running_from, version_after}
use Rattle.ignite_types.specs.Names.{same_top}
use Rattle.ignite_types.specs.declared.journal.Event.{Event}
use Rattle.ignite_types.specs.declared.journal.Group.{Group}
use Rattle.ignite_types.specs.declared.journal.Journal.{Journal}
use Rattle.ignite_types.specs.declared.journal.Rec.{Rec}
use Rattle.ignite_types.specs.declared.journal.TopoEvent.{TopoEvent}
use Rattle.ignite_types.specs.declared.list.List.{List}
use Rattle.ignite_types.specs.declared.names.NodeId.{NodeId}
use Rattle.ignite_types.specs.declared.names.TopVer.{TopVer}
use Rattle.ignite_types.specs.declared.scenario.Member.{Member}
use Rattle.ignite_types.specs.declared.scenario.PlanStep.{PlanStep}
use Rattle.ignite_types.specs.declared.scenario.Scenario.{Scenario}
use Rattle.ignite_types.specs.declared.scenario.Step.{Step}
use Rattle.ignite_types.specs.declared.journal.Event.TheVariants as event
use Rattle.ignite_types.specs.declared.journal.Rec.TheVariants as note
use Rattle.ignite_types.specs.declared.scenario.Step.TheVariants as step
use Rattle.ignite_types.specs.declared.journal.TopoEvent.TheVariants as topo

-- a topology version, its members by age, and the caches that run in it
pub record Topology : Type 0 where
  pub top : TopVer
  pub members : List Member
  pub running : List ℕ

abbrev pub event_of_step : Step → List TopoEvent
event_of_step (step.Join member) = topo.Join member ∷ []
event_of_step (step.Lose id) = topo.Left id ∷ []
event_of_step (step.Hold from to) = []
event_of_step (step.Release from to) = []
event_of_step (step.Start cache) = topo.Start cache ∷ []
event_of_step (step.Stop cache) = topo.Stop cache ∷ []

abbrev pub event_of_planned : Option PlanStep → List TopoEvent
event_of_planned None = []
event_of_planned (Some next) = event_of_step next.step

-- a plan step that was done appends its event
abbrev pub events_in_rec : List PlanStep → Rec → List TopoEvent
events_in_rec plan (note.Planned place None) = event_of_planned (slice_get plan place)
events_in_rec plan r = []

abbrev pub events_of : List PlanStep → List Rec → Event → List TopoEvent
events_of plan recs (event.Minor id) = topo.Minor ∷ []
events_of plan recs e = flat_map (events_in_rec plan) recs

-- the topology events in their order
abbrev pub topology_events : Scenario → List Group → List TopoEvent
topology_events scenario groups = flat_map (λ (g : Group). events_of scenario.plan g.recs g.event) groups

abbrev pub first_topology : Scenario → Topology
first_topology scenario = record { top = first_top; members = scenario.nodes; running = running_from 0 scenario.caches }

abbrev pub topology_after : Topology → TopoEvent → Topology
topology_after t e = record {
  top = version_after t.top e;
  members = members_after t.members e;
  running = running_after t.running e;
}

abbrev pub last_topology : Topology → List TopoEvent → Topology
last_topology t [] = t
last_topology t (e ∷ es) = last_topology (topology_after t e) es

abbrev pub topologies_from : Topology → List TopoEvent → List Topology
topologies_from t [] = t ∷ []
topologies_from t (e ∷ es) = t ∷ topologies_from (topology_after t e) es

-- the versions of a journal, the first one first
abbrev pub topologies : Journal → List Topology
topologies j = topologies_from (first_topology j.scenario) (topology_events j.scenario j.groups)

abbrev pub topology_of : List Topology → TopVer → Option Topology
topology_of ts top = find (λ (t : Topology). same_top t.top top) ts

-- What a node has seen.

abbrev pub read_after : ℕ → Rec → ℕ
read_after read (note.See place) = place + 1
read_after read r = read

abbrev pub read_from : ℕ → List Rec → ℕ
read_from read [] = read
read_from read (r ∷ rs) = read_from (read_after read r) rs

-- the events that the node with these records has seen
abbrev pub seen_events : List TopoEvent → List Rec → List TopoEvent
seen_events events recs = take (read_from 0 recs) events

abbrev pub left_by_event : TopoEvent → List NodeId
left_by_event (topo.Left id) = id ∷ []
left_by_event e = []

abbrev pub left_among : List TopoEvent → List NodeId
left_among events = flat_map left_by_event events
