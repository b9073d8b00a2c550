pub mod Functions
pub mod Likeness
