pub mod Code
pub mod Cores
pub mod Moves
pub mod Sights
