-- Definitions that follow the code step by step, for its proof.
pub mod Marking
