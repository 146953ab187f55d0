pub mod Lines
pub mod Words
pub mod Numbers
pub mod Scans
pub mod Cuts
pub mod Laws
