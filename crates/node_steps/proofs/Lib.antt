pub mod Copies
