pub mod Reading
pub mod Deciding
pub mod Viewed
