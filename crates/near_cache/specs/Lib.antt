pub mod ByCache
pub mod Kept
pub mod Sized
