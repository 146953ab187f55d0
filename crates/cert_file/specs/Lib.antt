pub mod Answers
pub mod BadLines
pub mod Laws
pub mod Reading
pub mod Text
pub mod Wrong
