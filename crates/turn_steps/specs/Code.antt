pub mod Reaching
pub mod Asked
