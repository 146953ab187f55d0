pub mod Distances
pub mod EntryLines
pub mod Printable
pub mod RoomLemmas
pub mod SpacedLemmas
pub mod Writing
