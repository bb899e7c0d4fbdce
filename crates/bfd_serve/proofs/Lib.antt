mod Common
pub mod Packets
pub mod Histories
pub mod Gains
pub mod Doing
pub mod Turning
pub mod Ordering
pub mod Ticking
pub mod Weights
pub mod Joins
pub mod Splits
pub mod Moves
pub mod Summing
mod SpellingCommon
pub mod Numerals
pub mod Rereading
pub mod RowsAgain
pub mod LinesAgain
pub mod Following
pub mod ScriptAgain
mod ServedTextCommon
pub mod Starting
pub mod Sizes
pub mod Entries
pub mod Shards
mod RunCommon
pub mod Shuts
pub mod Closings
pub mod Tables
pub mod Dealing
pub mod Counts
pub mod Causes
pub mod Entered
pub mod Wholes
pub mod Theirs
