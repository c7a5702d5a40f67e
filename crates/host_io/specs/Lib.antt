pub mod Faults
pub mod ReadEnd
pub mod Sink
pub mod Plan
pub mod Memory
pub mod ToolStatus
