pub mod Plays
pub mod Told
