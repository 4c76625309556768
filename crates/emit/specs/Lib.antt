pub mod Emit
pub mod code
