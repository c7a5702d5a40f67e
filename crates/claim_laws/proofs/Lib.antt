pub mod ClaimEvents
pub mod ClaimLaws
pub mod ClaimRows
