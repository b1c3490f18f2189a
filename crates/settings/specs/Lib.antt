pub mod Settings
pub mod Meant
