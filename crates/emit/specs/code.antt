pub mod WroteBits
