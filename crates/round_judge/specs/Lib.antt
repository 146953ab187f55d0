pub mod Additions
pub mod Code
pub mod Notes
pub mod Past
pub mod Readable
pub mod Steps
pub mod Units
