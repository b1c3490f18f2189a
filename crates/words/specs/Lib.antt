pub mod Names
pub mod Words
pub mod Cursors
pub mod Lines
