-- Definitions that follow the code step by step, for its proof. No statement that a caller rests on needs them.
pub mod Candidates
pub mod Cutting
pub mod Enclosed
pub mod Front
pub mod Numbers
pub mod Reading
