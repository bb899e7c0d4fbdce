mod Common
pub mod Drawing
pub mod Searching
pub mod Front
pub mod Rest
pub mod Soundness
pub mod Naming
pub mod Expiry
