pub mod Loops
pub mod Sums
pub mod Traces
pub mod Stored
pub mod Parts
pub mod Written
pub mod Cases
