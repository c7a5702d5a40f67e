pub mod ForgedLaws
pub mod Forgeries
pub mod Forging
pub mod LongBlocks
