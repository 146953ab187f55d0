-- What the code works with on its way. A reader of traces needs none of it.
pub mod Steps
