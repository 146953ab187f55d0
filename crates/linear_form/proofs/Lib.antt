pub mod Build
pub mod Counting
pub mod Points
pub mod Sizes
pub mod Sums
