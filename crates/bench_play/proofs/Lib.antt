pub mod Benches
pub mod MadePlans
