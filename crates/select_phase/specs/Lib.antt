pub mod Seen
pub mod Glances
