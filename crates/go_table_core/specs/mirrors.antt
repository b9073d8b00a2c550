-- Definitions that follow the code step by step, for its proof. No statement that a caller rests on needs them.
pub mod Spots
pub mod Ordered
pub mod Kept
pub mod Holding
pub mod Meeting
