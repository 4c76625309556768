pub mod Plays
pub mod Lists
pub mod Slots
