-- What the code works with on its way. A reader of `specs/` needs none of it.
pub mod Moved
