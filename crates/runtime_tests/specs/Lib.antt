pub mod Merged
pub mod Stages
pub mod Tables
