pub mod Laws
pub mod Outlines
pub mod mirrors
