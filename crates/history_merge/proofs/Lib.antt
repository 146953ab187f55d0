pub mod Counts
pub mod MergedLists
pub mod Steps
pub mod Walks
