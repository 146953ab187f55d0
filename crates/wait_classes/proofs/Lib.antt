pub mod Applying
pub mod Elected
pub mod Falling
pub mod Moved
pub mod Queued
pub mod Rising
pub mod Seen
mod Worked
