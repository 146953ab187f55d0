pub mod Packed
pub mod Numbers
