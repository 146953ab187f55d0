pub mod Code
pub mod Searches
pub mod Starving
pub mod Traces
