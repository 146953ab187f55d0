pub mod Steps
pub mod Moving
pub mod Reached
