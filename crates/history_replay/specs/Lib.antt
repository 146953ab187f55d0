pub mod Judges
pub mod Lines
