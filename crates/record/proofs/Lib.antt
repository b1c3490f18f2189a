pub mod Little
pub mod Clean
pub mod Round
pub mod Walk
