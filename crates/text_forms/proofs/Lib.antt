pub mod Cutting
mod TextLemmas
mod LineLaws
mod WordLaws
pub mod DecimalLemmas
