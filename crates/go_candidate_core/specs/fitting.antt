pub mod Fitting
pub mod mirrors
