pub mod Coefficients
pub mod Depth
pub mod Integers
pub mod Numbered
pub mod Partial
pub mod Parts
pub mod Sound
