pub mod EachRun
pub mod Events
pub mod Rows
pub mod Scenes
pub mod ViewEvents
pub mod Views
