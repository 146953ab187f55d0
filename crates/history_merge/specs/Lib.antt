pub mod Code
pub mod Cursors
pub mod Laws
pub mod Merged
