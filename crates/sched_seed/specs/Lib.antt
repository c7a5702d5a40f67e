pub mod Generated
pub mod Picks
pub mod Transactions
pub mod Words
