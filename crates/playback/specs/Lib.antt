pub mod Lent
pub mod Gather
pub mod Shown
pub mod Way
pub mod Walk
