pub mod Block
pub mod Sums
pub mod Write
