pub mod History
pub mod Expired
pub mod Shard
pub mod Sessions
pub mod Inside
pub mod Dealing
