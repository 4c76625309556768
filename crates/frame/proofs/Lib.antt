pub mod FlagLaws
pub mod RemovalLaws
pub mod RefreshLaws
pub mod FrameLaws
pub mod FrameShowLaws
pub mod FrameSpecLaws
pub mod FrameFromLaws
pub mod UnitFrameLaws
