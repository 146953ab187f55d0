pub mod Texts
pub mod Values
pub mod ShownLines
pub mod FirstLines
pub mod NumberedLines
