pub mod Numbers
pub mod Due
pub mod Counting
