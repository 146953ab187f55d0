pub mod Code
pub mod Tasks
