pub mod Laws
pub mod Quiet
pub mod mirrors
