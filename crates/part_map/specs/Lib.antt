pub mod Claims
pub mod Maps
pub mod Shares
