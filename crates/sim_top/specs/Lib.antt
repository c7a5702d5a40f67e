pub mod Asked
pub mod Drive
pub mod Sim
pub mod Told
