pub mod GatherLaws
pub mod SaysLaws
pub mod ShownLaws
pub mod WayLaws
pub mod WalkLaws
