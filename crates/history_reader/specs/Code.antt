-- What the code works with on its way. A reader of what a history's text is needs none of it: no definition and no law
-- outside this folder rests on what stands here.
pub mod Faults
pub mod Kinds
pub mod Numbers
