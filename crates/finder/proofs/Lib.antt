pub mod Repeats
pub mod Begun
pub mod Whole
