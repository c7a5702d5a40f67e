pub mod Firsts
pub mod Following
pub mod Lines
pub mod Steps
pub mod Taking
