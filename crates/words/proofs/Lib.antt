pub mod WordLaws
pub mod Names
pub mod Spaced
pub mod Figures
