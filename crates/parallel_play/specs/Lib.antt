pub mod Playing
pub mod Runs
pub mod Stages
pub mod Tallies
