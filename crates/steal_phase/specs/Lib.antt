pub mod Attempts
pub mod Taking
