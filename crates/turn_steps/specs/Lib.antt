pub mod Answers
pub mod Asks
pub mod Code
pub mod Reaches
pub mod Shares
pub mod States
pub mod Views
