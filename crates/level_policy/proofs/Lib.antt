pub mod Chains
pub mod CompiledResolved
pub mod Kept
pub mod Nearest
pub mod Passing
pub mod Staying
