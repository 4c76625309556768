pub mod Parts
pub mod Fill
pub mod Join
