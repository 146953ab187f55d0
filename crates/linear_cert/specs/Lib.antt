pub mod Laws
pub mod Rows
pub mod Columns
pub mod Right
