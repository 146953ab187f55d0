pub mod FairMeets
pub mod FairResolved
pub mod ResolvedForms
