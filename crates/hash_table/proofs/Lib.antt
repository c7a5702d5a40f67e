pub mod Ordered
pub mod Tables
pub mod Least
pub mod Sorting
