pub mod Cuts
mod Examples
pub mod Few
pub mod GoodDrafts
mod GoodExamples
pub mod GoodKept
pub mod GoodCaches
pub mod GoodLines
pub mod GoodLists
pub mod GoodPlans
pub mod GoodScripts
pub mod GoodTexts
pub mod NamedLines
pub mod Seen
pub mod Holds
pub mod WordLemmas
