mod Common
pub mod Beginnings
pub mod Seats
pub mod Kept
pub mod Loads
pub mod TakeAndRelease
pub mod Sharing
