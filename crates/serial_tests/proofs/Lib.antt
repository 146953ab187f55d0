pub mod Drawing
pub mod Fitting
pub mod Merging
