pub mod Asking
pub mod Asks
pub mod Attempting
pub mod Beginning
pub mod Noting
pub mod Rounding
pub mod Stepping
pub mod Turning
