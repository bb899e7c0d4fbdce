mod Common
pub mod Worlds
pub mod Comings
pub mod SameConfigs
pub mod Stages
pub mod Emitting
pub mod Joining
pub mod Judged
pub mod Resting
