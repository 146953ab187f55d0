pub mod Adding
pub mod NamesFound
pub mod Sizes
pub mod Walks
