pub mod CacheLaws
pub mod Entries
pub mod NearLaws
pub mod ReaderLaws
