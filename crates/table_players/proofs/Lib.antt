pub mod Crossing
pub mod Dealing
pub mod Fitting
pub mod Judged
pub mod Letting
pub mod Pushing
pub mod Turning
