pub mod Gathering
pub mod Owning
pub mod Placing
pub mod Taking
