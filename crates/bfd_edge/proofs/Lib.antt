pub mod Hearing
pub mod Opening
pub mod Placing
