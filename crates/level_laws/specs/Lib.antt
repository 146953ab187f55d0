pub mod LevelChoiceLaw
