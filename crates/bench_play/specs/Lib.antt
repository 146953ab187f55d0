pub mod Bench
pub mod Lines
