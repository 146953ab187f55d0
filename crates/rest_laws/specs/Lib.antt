pub mod Gap
pub mod LowestFirst
pub mod TwoApart
