pub mod Sum
pub mod Solution
pub mod System
pub mod Difference
pub mod Points
