pub mod FindEvents
pub mod FindRows
pub mod LeavesAccesses
pub mod OwnRecords
pub mod QuietRows
pub mod ToldLaws
