pub mod Packets
pub mod PacketLists
pub mod code
