pub mod Paths
pub mod Selectors
pub mod mirrors
