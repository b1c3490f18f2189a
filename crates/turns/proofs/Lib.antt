pub mod Lowest
pub mod Negated
pub mod Rules
pub mod Turning
