pub mod Marks
pub mod Gets
pub mod Decides
pub mod Plans
