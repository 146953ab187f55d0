pub mod Judgement
pub mod Laws
