-- What the code works with on its way. A reader of the crate needs none of it: no definition and no law of
-- `specs/` outside this folder rests on what stands here.
pub mod Batches
pub mod UnitSteps
