pub mod Edits
pub mod mirrors
