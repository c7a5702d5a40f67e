pub mod Coordinating
