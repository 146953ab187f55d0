pub mod Merged
pub mod OnePlay
