pub mod Counts
pub mod FreeLines
pub mod FreeNodes
