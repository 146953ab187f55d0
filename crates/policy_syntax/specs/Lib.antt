pub mod LevelTrees
pub mod SyntaxTrees
