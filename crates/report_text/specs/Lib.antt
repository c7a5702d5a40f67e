pub mod Answers
pub mod Digests
pub mod Endings
pub mod Histories
pub mod Plans
pub mod Report
pub mod Sessions
pub mod Traces
