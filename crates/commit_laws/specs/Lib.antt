pub mod CommitFacts
pub mod CommitLaws
pub mod CommitSteps
