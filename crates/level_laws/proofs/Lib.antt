pub mod Choosing
pub mod Lists
pub mod Numbers
pub mod Parting
