pub mod Whole
pub mod Records
pub mod Listed
pub mod Examples
pub mod code
