pub mod LockFacts
pub mod LockViews
pub mod OwnerInvariant
pub mod OwnerLaws
