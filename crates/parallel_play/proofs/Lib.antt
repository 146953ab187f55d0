pub mod Beginnings
pub mod Counting
pub mod Rounding
pub mod Seating
pub mod Summing
