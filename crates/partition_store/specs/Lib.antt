pub mod Lending
pub mod Keeping
