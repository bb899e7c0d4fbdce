mod Common
pub mod Points
pub mod Packets
pub mod Rules
pub mod Cold
pub mod Calm
pub mod Naming
pub mod Sides
pub mod Hearing
pub mod Handshakes
pub mod Peers
pub mod Pairs
pub mod Totals
pub mod Played
