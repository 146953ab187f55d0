pub mod Crowds
pub mod Games
pub mod Tables
