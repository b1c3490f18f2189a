pub mod Cases
pub mod Loop
pub mod Whole
pub mod Files
