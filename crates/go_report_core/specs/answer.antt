pub mod Laws
pub mod Outer
pub mod Sample
pub mod Shown
pub mod Sites
pub mod mirrors
