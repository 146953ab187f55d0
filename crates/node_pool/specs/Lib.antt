pub mod FreeLine
pub mod Lends
pub mod Nodes
