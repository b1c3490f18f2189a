pub mod Accepted
pub mod Lists
pub mod Files
pub mod Splits
pub mod Pieces
pub mod Stages
pub mod Rows
