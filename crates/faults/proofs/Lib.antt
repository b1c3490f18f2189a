pub mod Shows
pub mod Lengths
