-- What the code works with on its way. A reader of the report's meaning needs none of it: no definition outside this
-- folder rests on what stands here.
pub mod Causes
pub mod Openings
pub mod Runs
pub mod Steals
pub mod Tellings
pub mod Walks
