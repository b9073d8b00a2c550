pub mod Callees
pub mod Headers
pub mod Own
pub mod Callers
pub mod Reached
pub mod Shown
pub mod Methods
pub mod Kept
