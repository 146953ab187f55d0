pub mod Changes
pub mod Steals
