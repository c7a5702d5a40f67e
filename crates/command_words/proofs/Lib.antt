pub mod Numbers
pub mod Refused
pub mod Rules
pub mod Spelling
pub mod Turns
pub mod Walks
pub mod Known
pub mod Read
