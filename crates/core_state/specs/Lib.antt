pub mod Code
pub mod Laws
pub mod Logs
pub mod Views
