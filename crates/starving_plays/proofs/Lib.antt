pub mod Founds
pub mod HungerLemmas
pub mod Returns
pub mod Same
pub mod Starved
