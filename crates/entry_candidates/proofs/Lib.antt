pub mod Orders
pub mod Tables
pub mod Named
pub mod Reading
mod Standing
mod Indexing
pub mod Calls
pub mod Members
pub mod Gathered
pub mod Leaving
pub mod FirstWaits
