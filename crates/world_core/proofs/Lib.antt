pub mod ActsLaws
pub mod FirstWaits
