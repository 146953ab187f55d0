pub mod Beside
pub mod Follows
pub mod Memory
pub mod Steps
