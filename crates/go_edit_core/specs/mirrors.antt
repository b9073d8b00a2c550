-- Definitions that follow the code step by step, for its proof. No statement that a caller rests on needs them.
pub mod Sharing
pub mod Comparing
