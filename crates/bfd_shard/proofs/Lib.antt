mod Common
pub mod Moves
pub mod Ticks
pub mod Runs
pub mod Timing
pub mod Expiring
pub mod OnTime
pub mod Setting
pub mod Dealing
pub mod Sharing
pub mod Lists
