mod Common
pub mod Ending
pub mod Served
pub mod Wanting
pub mod Writing
pub mod Decimal
pub mod Naming
pub mod Leading
pub mod Answering
pub mod Reading
pub mod ServedText
pub mod Taking
pub mod RunReport
mod WatchedTextCommon
mod Shared
mod Copies
mod TextLines
mod Polling
mod Reported
mod Closing
pub mod Steps
