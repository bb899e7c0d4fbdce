mod Common
pub mod Drawing
pub mod HeadFront
pub mod TailFront
pub mod Rest
pub mod Naming
pub mod Expiry
pub mod Soundness
