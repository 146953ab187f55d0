pub mod Compiled
pub mod Laws
pub mod LevelChoices
pub mod Levels
pub mod NearestBest
pub mod ResolvedLevels
