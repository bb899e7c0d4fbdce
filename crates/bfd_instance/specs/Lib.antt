pub mod World
pub mod Stage
pub mod Judged
