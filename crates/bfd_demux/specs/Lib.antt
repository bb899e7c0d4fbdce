pub mod Rows
pub mod FaultText
pub mod Table
pub mod Selection
pub mod Parts
pub mod Index
