-- What every event of the world leaves alone: its declared nodes, their inboxes, the sessions' nodes, the plan, and the
-- topology
-- events so far; and that the clock of each live node is the directory's.
use Rattle.std.specs.Prelude.{List, [], length, true, ℕ, ◌++◌, ◌∷◌, ◌≡◌}
use Rattle.ignite_types.specs.declared.journal.TopoEvent.{TopoEvent}
use Rattle.ignite_types.specs.declared.journal.Group.{Group}
use Rattle.ignite_types.specs.declared.scenario.Scenario.{Scenario}
use Rattle.tx_model.specs.Opening.{opening}
use Rattle.tx_model.specs.Runs.{world_after}
use Rattle.tx_model.specs.World.{Part, World, is_alive, node_ids}

pub record Stays (before world_after : World) : Type 0 where
  pub same_ids : node_ids world_after ≡ node_ids before
  pub as_many : length world_after.inboxes ≡ length before.inboxes
  pub same_session_nodes : world_after.session_nodes ≡ before.session_nodes
  pub same_plan : world_after.directory.plan ≡ before.directory.plan
  pub more : List TopoEvent
  pub events_are : world_after.directory.events ≡ before.directory.events ++ more

-- the clock of each of these that is alive shows this moment
abbrev pub InTime : ℕ → List Part → Type 0
InTime clock [] = Unit {0}
InTime clock (p ∷ ps) = (is_alive p.life ≡ true → p.node.now ≡ clock) × InTime clock ps

-- what stays after these groups' events, and that the clocks agree after them if they did before
pub record Runs (w : World) (gs : List Group) : Type 0 where
  pub stays : Stays w (world_after w gs)
  pub in_time : InTime w.directory.clock w.parts → InTime (world_after w gs).directory.clock (world_after w gs).parts

-- the clocks agree in the world after these groups of a run of the scenario
abbrev pub ClocksAgree : Scenario → List Group → Type 0
ClocksAgree scenario gs = let w = world_after (opening scenario) gs in InTime w.directory.clock w.parts
