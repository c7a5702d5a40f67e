-- What is known of who hands out the map of a version and tells its opening, by the records so far.
use Rattle.std.specs.Prelude.{Bool, None, Option, Some, [], false, length, true, ℕ, ◌++◌, ◌∷◌, ◌≡◌, ◌≤◌}
use Rattle.part_model.specs.Directory.{oldest_member}
use Rattle.ignite_types.specs.declared.journal.Rec.{Rec}
use Rattle.ignite_types.specs.declared.journal.TopoEvent.{TopoEvent}
use Rattle.ignite_types.specs.declared.list.List.{List}
use Rattle.ignite_types.specs.declared.names.NodeId.{NodeId}
use Rattle.ignite_types.specs.declared.names.TopVer.{TopVer}
use Rattle.ignite_types.specs.declared.scenario.Scenario.{Scenario}
use Rattle.journal_statements.specs.Noted.{Noted, map_of_version, maps_installed}
use Rattle.journal_statements.specs.Topologies.{Topology}
use Rattle.map_laws.specs.MapFacts.{topology_after_events}
use Rattle.scenes.specs.Scenes.{Scene}
use Rattle.topology_laws.specs.TopologyInvariant.{TopologyInvariant}
use Rattle.topology_laws.specs.TopologyScenes.{topology_scene}
use Rattle.ignite_types.specs.declared.message.Message.TheVariants as msg
use Rattle.ignite_types.specs.declared.journal.Rec.TheVariants as note

-- the node that noted a record is the oldest member of a version
pub record IsByOldest (s : Scenario) (events : List TopoEvent) (top : TopVer) (who : Option NodeId) : Type 0 where
  pub node : NodeId
  pub by : who ≡ Some node
  pub place : ℕ
  pub within : place ≤ length events
  pub is_top : (topology_after_events s events place).top ≡ top
  pub oldest : oldest_member (topology_after_events s events place).members ≡ Some node

-- a map is handed out, and an opening told, by the oldest member of the version; the map is the one that was installed
abbrev pub SentFits : Scenario → List TopoEvent → List Noted → Option NodeId → Rec → Type 0
SentFits s events before who (note.Sent to (msg.Full m)) =
    IsByOldest s events m.top who × (map_of_version (maps_installed s before) m.top ≡ Some m)
SentFits s events before who (note.Sent to (msg.Opens top)) = IsByOldest s events top who
SentFits s events before who _ = Unit {0}

abbrev pub NotedSentsFit : Scenario → List TopoEvent → List Noted → List Noted → Type 0
NotedSentsFit s events before [] = Unit {0}
NotedSentsFit s events before (n ∷ ns) =
    SentFits s events before n.node n.rec × NotedSentsFit s events (before ++ n ∷ []) ns

-- what was sent, beside the invariant of the laws of topology
pub record TopologyAndSents (sc : Scene) : Type 0 where
  pub topology : TopologyInvariant (topology_scene sc)
  pub sents : NotedSentsFit sc.scenario sc.directory.events [] sc.recs
