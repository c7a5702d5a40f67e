pub mod Batches
pub mod Marks
pub mod Supply
