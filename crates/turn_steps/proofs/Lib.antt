pub mod Sharing
pub mod NextToEnter
pub mod Telling
pub mod ModelAsks
pub mod Awaiting
pub mod Counting
pub mod Asked
