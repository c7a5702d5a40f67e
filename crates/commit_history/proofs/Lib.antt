pub mod Agreeing
pub mod Frames
pub mod Histories
pub mod Orders
pub mod Results
pub mod Steps
pub mod Tables
