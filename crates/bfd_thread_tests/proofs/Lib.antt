pub mod Rooms
pub mod Following
pub mod Worked
pub mod Joins
