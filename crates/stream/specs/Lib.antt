pub mod Collected
pub mod Lines
pub mod Reading
