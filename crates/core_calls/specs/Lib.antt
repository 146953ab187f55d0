pub mod Actors
pub mod Calls
pub mod Code
pub mod Stepping
pub mod Steps
pub mod Turns
