pub mod Near
pub mod Suggestions
pub mod mirrors
pub mod snap_core
