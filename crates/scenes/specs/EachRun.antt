-- What is shown of every legal run: the scene in which it ends, and how long it may be. Each part of a run from its beginning
-- is
-- a legal run too, so a law of the scenes in which runs end is a law of each moment.
use Rattle.std.specs.Prelude.{Bool, IsTrue, length, nat_lt, take, true, ℕ, ◌^◌, ◌≡◌}
use Rattle.ignite_types.specs.Good.{good}
use Rattle.ignite_types.specs.declared.journal.Journal.{Journal}
use Rattle.ignite_types.specs.declared.names.NodeId.{NodeId}
use Rattle.ignite_types.specs.declared.scenario.Scenario.{Scenario}
use Rattle.journal_statements.specs.Noted.{noted}
use Rattle.scenes.specs.Events.{EachEventKeeps}
use Rattle.scenes.specs.Scenes.{Scene, opening_scene, scene_of}
use Rattle.scenes.specs.ViewEvents.{EachViewEventKeeps}
use Rattle.scenes.specs.Views.{FlightView, flight_view}
use Rattle.tx_model.specs.Opening.{opening}
use Rattle.tx_model.specs.Runs.{IsLegal, world_after}
use Rattle.node_state.specs.declared.life.Life.TheVariants as life

-- Each event brings one topology event at most, and a version stands still only at 2 ^ 64 - 1: with fewer events than this the
-- versions of a run rise.
abbrev pub is_short_run : ℕ → Bool
is_short_run events = nat_lt events (2 ^ 62)

-- a legal run of a good scenario with so many events
pub record IsRunOf (events : ℕ) (j : Journal) : Type 0 where
  pub is_good : IsTrue (good j.scenario)
  pub is_legal : IsLegal j
  pub has_events : length j.groups ≡ events

-- the scene after the first so many events
abbrev pub scene_at : Journal → ℕ → Scene
scene_at j k = let gs = take k j.groups in scene_of j.scenario (noted j.scenario gs) (world_after (opening j.scenario) gs)

-- the scene in which a run ends
abbrev pub last_scene : Journal → Scene
last_scene j = scene_of j.scenario (noted j.scenario j.groups) (world_after (opening j.scenario) j.groups)

-- a test of scenes that good scenarios pass at their opening, and that each event keeps
pub record IsKeptTest (test : Scene → Bool) : Type 0 where
  pub at_opening : (s : Scenario) → IsTrue (good s) → test (opening_scene s) ≡ true
  pub by_events : EachEventKeeps (λ (sc : Scene). test sc ≡ true)

-- the same of a test of views, in which a message is on its way from the step that sends it
pub record IsKeptViewTest (test : FlightView → Bool) : Type 0 where
  pub at_opening : (s : Scenario) → IsTrue (good s) → test (flight_view (opening_scene s)) ≡ true
  pub by_events : EachViewEventKeeps (λ (v : FlightView). test v ≡ true)

-- a node that is lost is so for ever, and its state stays as it was
pub record StaysLost (n : NodeId) (earlier later : Scene) : Type 0 where
  pub lost : later.life n ≡ life.Gone
  pub same_state : later.state n ≡ earlier.state n
