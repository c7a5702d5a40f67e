pub mod FindFacts
pub mod LeavesAccesses
pub mod ToldLaws
