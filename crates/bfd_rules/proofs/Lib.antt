pub mod Still
pub mod Drawing
pub mod Courses
pub mod Heard
