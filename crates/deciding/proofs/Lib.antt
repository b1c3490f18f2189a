pub mod MarkLaws
pub mod Got
pub mod Decided
