pub mod BoundMet
pub mod HundredCores
pub mod LeavingResolved
pub mod Reported
pub mod Rested
pub mod Stirred
pub mod TakenLast
pub mod Wasted
