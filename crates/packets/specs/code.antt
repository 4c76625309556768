pub mod Canonical
pub mod PacketRuns
pub mod Walk
