pub mod Later
pub mod Failing
pub mod Idle
pub mod Repeated
pub mod Sending
pub mod Beats
