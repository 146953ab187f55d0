pub mod Chains
pub mod Meaning
pub mod Trees
pub mod Variables
