pub mod Quantities
pub mod Jitter
pub mod EventFrame
pub mod Names
pub mod Renewal
pub mod Sound
