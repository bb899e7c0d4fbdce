pub mod Scanned
pub mod Lower
pub mod Sorted
