-- Definitions that follow the code, for its proof. No statement that a caller rests on needs them.
pub mod Starts
pub mod Walks
