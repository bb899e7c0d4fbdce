pub mod Digests
pub mod Sealed
pub mod Verdict
