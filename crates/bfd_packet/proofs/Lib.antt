pub mod KeyRules
pub mod RoundTrip
pub mod Turned
