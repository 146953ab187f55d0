pub mod EntryBounds
pub mod SerialEnding
pub mod SerialSteps
pub mod SerialTurns
pub mod SerialWholes
pub mod Turning
pub mod Ordering
