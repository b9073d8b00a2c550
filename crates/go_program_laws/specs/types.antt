pub mod Functions
pub mod Written
pub mod Params
pub mod Locals
pub mod Scope
pub mod Fits
pub mod Sources
