pub mod Honest
pub mod LawsRefused
pub mod LongBlocks
pub mod Refused
