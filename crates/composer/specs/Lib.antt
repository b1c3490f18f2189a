pub mod Composer
pub mod Composed
