pub mod Clocks
pub mod Hearing
pub mod Sockets
