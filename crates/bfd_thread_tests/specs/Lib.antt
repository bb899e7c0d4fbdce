pub mod Following
pub mod Ready
pub mod Calling
pub mod Joining
pub mod Turns
