pub mod Trails
pub mod Order
pub mod Covers
pub mod Searches
pub mod First
pub mod Deeper
pub mod Answering
