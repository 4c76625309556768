pub mod Slots
pub mod Refs
pub mod Size
pub mod TileLimits
pub mod TileBounds
pub mod Tiles
pub mod code
