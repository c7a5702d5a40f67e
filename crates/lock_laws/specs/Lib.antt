pub mod Carrying
pub mod Tracking
