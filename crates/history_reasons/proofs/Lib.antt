pub mod Judging
pub mod KeptRules
pub mod NextEntries
pub mod ReadReasons
pub mod Told
