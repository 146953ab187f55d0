pub mod CompiledRows
pub mod LevelPlans
pub mod LevelPolicies
pub mod LevelRows
pub mod ResolvedRows
