-- The invariant of the laws of living owners; it stands beside those of the laws of topology and of maps.
use Rattle.std.specs.Prelude.{[]}
use Rattle.ignite_types.specs.declared.names.NodeId.{NodeId}
use Rattle.map_laws.specs.MapInvariant.{TopologyAndMaps}
use Rattle.node_state.specs.Node.{NodeState}
use Rattle.scenes.specs.Scenes.{Scene, scene_in_act}
use Rattle.survivor_laws.specs.SurvivorFacts.{HasLiveOwners, IsNotedAt, NotedSurvivorsFit}

pub record SurvivorInvariant (sc : Scene) : Type 0 where
  -- the map of each node is one that it noted
  pub noted : (n : NodeId) → IsNotedAt sc.scenario sc.recs n (sc.state n).installed
  -- in the highest map each partition that has owners has one that is not lost
  pub owners : HasLiveOwners sc.scenario sc.directory.events sc.recs
  -- so it was at each record of a map or of a loss, and each map was made of such a one
  pub fit : NotedSurvivorsFit sc.scenario sc.directory.events [] sc.recs

-- all three invariants
pub record MapsAndSurvivors (sc : Scene) : Type 0 where
  pub maps : TopologyAndMaps sc
  pub survivors : SurvivorInvariant sc

-- the invariant with a node in this state, in the midst of its act
abbrev pub SurvivorsInAct : Scene → NodeId → NodeState → Type 0
SurvivorsInAct sc n s = SurvivorInvariant (scene_in_act sc n s)
