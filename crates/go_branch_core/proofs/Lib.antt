pub mod Crossing
pub mod Forked
pub mod QuietLines
pub mod Stepping
pub mod Whole
