pub mod Ranges
pub mod Extents
pub mod Survey
pub mod Walk
