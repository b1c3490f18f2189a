pub mod Puts
pub mod Writes
pub mod Lengths
pub mod Decimals
pub mod Rooms
pub mod Said
pub mod PrintLaws
pub mod Texts
