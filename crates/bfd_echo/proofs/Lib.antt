pub mod Moments
pub mod DueTick
pub mod Numbers
pub mod Words
