pub mod Loop
pub mod Feeds
pub mod Whole
pub mod Nodes
pub mod Files
