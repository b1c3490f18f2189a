pub mod Blocks
pub mod Standing
pub mod Feeding
pub mod Whole
