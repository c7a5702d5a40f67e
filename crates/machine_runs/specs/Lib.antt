pub mod Driver
pub mod Words
