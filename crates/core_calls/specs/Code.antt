pub mod Finishes
pub mod Sends
pub mod Wakes
