pub mod Choices
pub mod Search
