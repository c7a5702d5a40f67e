-- The invariant of the laws of topology.
use Rattle.topology_laws.specs.TopologyFacts.{HasSeen, HasSomeMap, HoldsOfEach, MessageTells, OldestHasMap, PartFits, RecordsFitFrom, never_leaves, openings_by, openings_to_come}
use Rattle.std.specs.Prelude.{Some, [], length, true, ℕ, ◌+◌, ◌<◌, ◌^◌, ◌≡◌, ◌≤◌, ◌⊎◌, false}
use Rattle.part_model.specs.Directory.{first_top}
use Rattle.part_model.specs.NextMap.{is_member}
use Rattle.ignite_types.specs.declared.names.NodeId.{NodeId}
use Rattle.ignite_types.specs.declared.names.TopVer.{TopVer}
use Rattle.ignite_types.specs.declared.placement.PartMap.{PartMap}
use Rattle.journal_statements.specs.Noted.{is_lost}
use Rattle.node_state.specs.Node.{NodeState}
use Rattle.topology_laws.specs.TopologyScenes.{TopologyPart, TopologyScene, map_of, topology_at, topology_in_act}

pub record TopologyInvariant (sc : TopologyScene) : Type 0 where
  -- Members.
  -- a node that is not lost never left
  pub lefts : (n : NodeId) → is_lost sc.recs n ≡ false → never_leaves n sc.events ≡ true
  -- who was a member of any version is lost, or alive
  pub sat : (k : ℕ) → k ≤ length sc.events → (n : NodeId) → is_member (topology_at sc k).members n ≡ true →
      HasSeen sc first_top n
  -- there are few topology events, so that versions rise
  pub few : length sc.events < 2 ^ 63
  -- Nodes and messages.
  -- a node that is alive knows the version that it has read, its map is one of the journal, and what it keeps tells the
  -- truth; one
  -- that has not joined keeps nothing
  pub seats : (n : NodeId) (x : TopologyPart) → sc.seat n ≡ Some x → PartFits sc n x.life x.state
  -- what each message on its way tells is true
  pub links : (a b : NodeId) → HoldsOfEach (MessageTells sc a b) (sc.link a b)
  -- Maps.
  -- where a version has a map, its oldest member is lost or has it or a higher one
  pub computed : (top : TopVer) (m : PartMap) → map_of sc top ≡ Some m → OldestHasMap sc top
  -- Openings.
  -- a node opens a version once: it was opened there, or is on its way there, or is in the exchange of the one that opens it
  pub once : (from to : NodeId) (v : TopVer) → openings_to_come sc v from to + openings_by v to sc.recs ≤ 1
  -- a version that was opened anywhere has a map
  pub known : (to : NodeId) (v : TopVer) → (openings_by v to sc.recs ≡ 0) ⊎ HasSomeMap sc v
  -- The laws.
  -- each record of a map and of an opening is as the laws want it, by the records before it
  pub fit : RecordsFitFrom sc [] sc.recs

-- the invariant with a node in this state, in the midst of its act
abbrev pub HoldsInTopologyAct : TopologyScene → NodeId → NodeState → Type 0
HoldsInTopologyAct sc n s = TopologyInvariant (topology_in_act sc n s)
