pub mod Joined
pub mod Moments
