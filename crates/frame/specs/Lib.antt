pub mod FrameType
pub mod Frame
pub mod Refresh
pub mod UnitFrame
pub mod code
