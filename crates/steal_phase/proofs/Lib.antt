pub mod Two
pub mod Moving
pub mod Drawn
pub mod Added
pub mod Ending
