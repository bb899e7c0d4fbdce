mod Common
mod Calls
pub mod Rooms
pub mod Places
pub mod Reaching
pub mod Opening
pub mod States
pub mod Turning
pub mod Timing
pub mod Cutting
pub mod Gluing
pub mod Closing
pub mod Lending
pub mod Copies
pub mod Growing
pub mod Comings
pub mod Verdicts
pub mod Crossing
pub mod Ordered
