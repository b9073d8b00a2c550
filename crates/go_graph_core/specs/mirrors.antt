-- Definitions that follow the code step by step, for its proof. No statement that a caller rests on needs them.
pub mod Clauses
pub mod Flaws
pub mod Placed
pub mod Positions
pub mod Sameness
pub mod Targets
