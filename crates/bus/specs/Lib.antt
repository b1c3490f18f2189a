pub mod Asking
pub mod Advance
