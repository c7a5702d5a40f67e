pub mod Ascending
pub mod Example
pub mod Listed
pub mod NodeEvents
pub mod Places
pub mod PlanEvents
pub mod Runs
pub mod Shapes
