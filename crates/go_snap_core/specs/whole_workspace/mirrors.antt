-- Definitions that follow the making of parts step by step. No statement that a caller rests on needs them.
pub mod Steps
