pub mod AddsLemmas
pub mod Sizes
pub mod CasesLemmas
pub mod VariableBounds
pub mod WiderRanges
pub mod Widest
pub mod WidthBounds
pub mod WideLemmas
