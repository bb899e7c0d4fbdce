pub mod Packet
pub mod Sequence
pub mod Timing
pub mod Rules
