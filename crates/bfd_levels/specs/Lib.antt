pub mod Height
pub mod Rings
pub mod Lists
pub mod Moves
pub mod Calls
pub mod ByCount
