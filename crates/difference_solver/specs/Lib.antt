pub mod Closing
pub mod Decides
pub mod Distance
pub mod Distances
pub mod Meaning
pub mod Passing
pub mod Ranges
pub mod Shortening
