pub mod Laws
pub mod Needs
pub mod mirrors
