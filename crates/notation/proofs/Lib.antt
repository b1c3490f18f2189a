pub mod Said
pub mod Actions
pub mod Texts
pub mod Fitting
pub mod Readers
pub mod Questions
