pub mod Obu
pub mod Place
pub mod Unit
pub mod Walk
pub mod Write
