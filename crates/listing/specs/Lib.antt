pub mod File
pub mod Says
pub mod Decimal
pub mod Text
