pub mod Segments
pub mod Prepare
pub mod Assemble
pub mod Sizes
pub mod Flat
pub mod Says
pub mod code
