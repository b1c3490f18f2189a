pub mod Text
pub mod Lines
pub mod Room
pub mod Writer
pub mod Printed
