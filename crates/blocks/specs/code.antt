pub mod Lay
pub mod Steps
