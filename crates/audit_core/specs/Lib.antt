pub mod Histories
pub mod Shape
pub mod Verdict
pub mod Told
pub mod Ends
