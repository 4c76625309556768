pub mod Syntax
pub mod Repeat
pub mod Turns
pub mod Near
pub mod Signed
