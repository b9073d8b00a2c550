pub mod Shown
pub mod mirrors
