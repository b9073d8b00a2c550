pub mod Hints
pub mod Kept
