-- The invariant of the laws of maps; it stands beside that of the laws of topology.
use Rattle.std.specs.Prelude.{[], false, ◌≡◌}
use Rattle.ignite_types.specs.declared.names.NodeId.{NodeId}
use Rattle.journal_statements.specs.Noted.{is_lost}
use Rattle.map_laws.specs.MapFacts.{NodeMaps, NotedMapsFit}
use Rattle.node_state.specs.Node.{NodeState}
use Rattle.scenes.specs.Scenes.{Scene, scene_in_act}
use Rattle.topology_laws.specs.TopologyInvariant.{TopologyInvariant}
use Rattle.topology_laws.specs.TopologyScenes.{topology_scene}

pub record MapInvariant (sc : Scene) : Type 0 where
  -- each node that is not lost keeps the Singles that it was brought, and the highest map that it installed
  pub nodes : (n : NodeId) → is_lost sc.recs n ≡ false
      → NodeMaps sc.scenario sc.recs n (sc.state n).caches (sc.state n).installed (sc.state n).singles
  -- each map that was installed had its version already, or was the next map of the highest one
  pub maps : NotedMapsFit sc.scenario sc.directory.events [] sc.recs

-- both invariants
pub record TopologyAndMaps (sc : Scene) : Type 0 where
  pub topology : TopologyInvariant (topology_scene sc)
  pub maps : MapInvariant sc

-- the invariant with a node in this state, in the midst of its act
abbrev pub MapsHoldInAct : Scene → NodeId → NodeState → Type 0
MapsHoldInAct sc n s = MapInvariant (scene_in_act sc n s)
