pub mod File
pub mod Pieces
pub mod Order
