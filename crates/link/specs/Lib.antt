pub mod Rules
pub mod Reading
