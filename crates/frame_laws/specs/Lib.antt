pub mod Acting
pub mod Extending
pub mod Kits
