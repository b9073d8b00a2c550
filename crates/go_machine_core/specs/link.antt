pub mod Functions
pub mod Packages
pub mod Reaching
pub mod Order
pub mod Linked
pub mod mirrors
