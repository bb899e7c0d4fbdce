pub mod Changes
pub mod Watching
pub mod Groups
pub mod Watched
