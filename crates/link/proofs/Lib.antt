pub mod Ruled
pub mod Reading
