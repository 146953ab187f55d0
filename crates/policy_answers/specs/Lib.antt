pub mod Bounds
pub mod Checks
pub mod Lines
pub mod Points
pub mod Reading
pub mod Rests
pub mod TextLines
pub mod Verifying
