pub mod Fitting
pub mod Ends
pub mod Laws
pub mod RunLaws
