pub mod Code
pub mod Laws
pub mod Samples
pub mod mirrors
pub mod fragments
