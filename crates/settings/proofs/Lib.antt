pub mod Users
pub mod Whole
pub mod Taken
pub mod Examples
