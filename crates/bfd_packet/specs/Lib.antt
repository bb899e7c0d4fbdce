pub mod KeyChain
pub mod States
pub mod Addresses
pub mod Layout
pub mod HeaderTests
pub mod TestNames
pub mod Buffers
