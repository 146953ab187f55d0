pub mod Command
pub mod Asks
pub mod Numbers
pub mod Program
