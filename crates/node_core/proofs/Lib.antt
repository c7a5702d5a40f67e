pub mod ActLemmas
pub mod EmptyCopies
