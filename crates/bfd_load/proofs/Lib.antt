pub mod Counting
pub mod Bytes
pub mod Each
pub mod Hearing
pub mod Whole
