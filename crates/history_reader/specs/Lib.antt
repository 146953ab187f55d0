pub mod Answers
pub mod Code
pub mod Laws
pub mod Reading
