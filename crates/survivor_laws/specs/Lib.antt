pub mod SurvivorFacts
pub mod SurvivorInvariant
