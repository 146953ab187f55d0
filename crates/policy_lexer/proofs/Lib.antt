pub mod Runs
pub mod Firsts
pub mod Numbers
pub mod Places
pub mod Answered
