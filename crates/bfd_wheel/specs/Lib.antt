pub mod Rings
pub mod Wheel
pub mod Taken
