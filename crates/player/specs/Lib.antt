pub mod Player
pub mod Values
