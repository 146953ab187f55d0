pub mod Least
pub mod Slices
pub mod Waiting
