pub mod Keeping
pub mod Rising
pub mod Slopes
pub mod Taken
