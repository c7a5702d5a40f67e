mod Orders
pub mod Ascending
pub mod Laws
mod Found
pub mod Copies
