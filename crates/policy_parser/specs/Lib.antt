pub mod Answers
pub mod Cases
pub mod LevelSections
pub mod Sections
