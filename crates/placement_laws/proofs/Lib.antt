pub mod MemberRows
pub mod PlacementLaws
pub mod Rows
