pub mod Places
pub mod Handing
pub mod Passing
pub mod Shares
pub mod Crossing
