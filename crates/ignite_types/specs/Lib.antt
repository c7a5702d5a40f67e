pub mod Affinity
pub mod Good
pub mod Names
pub mod Padded
pub mod Placement
pub mod Texts
