pub mod Alone
pub mod Inputs
pub mod Outputs
pub mod Reports
pub mod mirrors
pub mod told_lines
pub mod handle_core
