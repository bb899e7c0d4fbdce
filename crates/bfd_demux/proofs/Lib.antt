mod Common
pub mod AlikeRows
pub mod Ascending
pub mod Once
pub mod Apart
pub mod Lookups
pub mod Changing
pub mod Indexing
pub mod Selecting
