pub mod Ahead
pub mod Codes
pub mod Heaps
pub mod Lines
pub mod Queues
pub mod Scans
