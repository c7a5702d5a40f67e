pub mod Acts
pub mod Events
pub mod Journals
pub mod Parts
pub mod Plans
pub mod Runs
pub mod Tracking
