pub mod DriveLaws
pub mod RangeLaws
pub mod SaidLaws
pub mod WorldLaws
