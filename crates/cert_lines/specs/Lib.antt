pub mod Answers
pub mod Faults
pub mod Laws
pub mod Nodes
pub mod Reading
pub mod Text
