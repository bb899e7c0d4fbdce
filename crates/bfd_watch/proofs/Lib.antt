pub mod ChangeLines
pub mod Lines
