-- Definitions that follow the code, for its proof.
pub mod Pairs
