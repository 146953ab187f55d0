pub mod Adding
pub mod NextSteps
pub mod Playing
pub mod Stepping
pub mod Turning
