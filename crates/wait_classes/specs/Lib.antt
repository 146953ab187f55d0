pub mod Attributes
pub mod Classes
pub mod Electing
pub mod Laws
pub mod Rules
