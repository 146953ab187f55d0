pub mod Printed
pub mod Adds
