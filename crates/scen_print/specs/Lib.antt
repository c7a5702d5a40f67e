pub mod Items
pub mod Printing
