pub mod Walk
pub mod Feeding
pub mod Reading
