pub mod History
pub mod Opening
pub mod Outlooks
pub mod Runs
pub mod World
