pub mod Outputs
pub mod mirrors
