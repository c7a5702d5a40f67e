mod CommitEvents
pub mod CommitLaws
mod CommitRecords
mod CommitRows
mod HolderWalks
mod LossWalks
mod StarterWalks
mod TameMessages
