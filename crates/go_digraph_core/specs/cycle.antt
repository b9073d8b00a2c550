pub mod Cycle
pub mod Laws
pub mod mirrors
