pub mod Events
pub mod Run
pub mod Handshake
pub mod Inside
pub mod Schedule
pub mod Line
pub mod Playing
