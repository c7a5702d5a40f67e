pub mod LeavesTopology
pub mod TopologyFacts
pub mod TopologyInvariant
pub mod TopologyLaws
pub mod TopologyScenes
