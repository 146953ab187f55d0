pub mod Logs
pub mod Placing
pub mod Quiet
pub mod Taking
