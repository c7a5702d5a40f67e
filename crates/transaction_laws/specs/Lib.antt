pub mod LeavesStarters
pub mod StarterFacts
pub mod StarterInvariant
pub mod StarterKits
pub mod StarterNotes
pub mod StarterStates
pub mod TransactionLaws
