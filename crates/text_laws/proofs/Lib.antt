pub mod Again
pub mod Caches
pub mod Called
mod Examples
pub mod Heads
pub mod Lines
pub mod Means
pub mod Names
pub mod Numbers
pub mod Plans
pub mod Scripts
pub mod Sessions
pub mod Split
pub mod Taken
pub mod Texts
pub mod Whole
