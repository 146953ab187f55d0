pub mod Assigning
mod Beside
pub mod Best
pub mod Bounds
pub mod Evaluable
pub mod Filling
pub mod Forms
pub mod Handling
pub mod Kept
pub mod Operations
pub mod Products
pub mod Statements
pub mod Wide
