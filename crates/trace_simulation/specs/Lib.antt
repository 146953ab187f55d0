pub mod Lines
pub mod Simulations
