pub mod BadLines
pub mod Digits
pub mod ManyMults
pub mod Mults
pub mod OneReading
pub mod Words
