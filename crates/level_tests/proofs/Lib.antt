pub mod Fitting
pub mod Owing
pub mod Playing
pub mod Resolving
