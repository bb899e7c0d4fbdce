pub mod Acceptance
