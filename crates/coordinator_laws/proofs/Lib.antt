pub mod ActRecords
pub mod CoordinatorLaws
