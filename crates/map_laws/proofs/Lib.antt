pub mod LeavesMaps
pub mod MapEvents
pub mod MapFrames
pub mod MapKept
pub mod MapLaws
pub mod MapLosses
pub mod MapRows
pub mod MapSteps
