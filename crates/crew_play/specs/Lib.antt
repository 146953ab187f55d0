pub mod Crews
pub mod Hands
pub mod Room
