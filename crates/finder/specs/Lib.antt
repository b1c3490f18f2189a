pub mod Reader
pub mod Meant
