pub mod Added
pub mod Importing
pub mod mirrors
