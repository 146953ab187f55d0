pub mod Counts
pub mod Drawn
