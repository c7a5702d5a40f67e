pub mod LeavesMaps
pub mod MapFacts
pub mod MapInvariant
pub mod MapLaws
