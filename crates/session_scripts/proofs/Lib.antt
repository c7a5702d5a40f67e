pub mod Copies
pub mod CutTexts
pub mod Decimals
pub mod Spelled
