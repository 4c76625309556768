pub mod Shape
pub mod Tail
pub mod Scan
