pub mod Inlines
pub mod Laws
pub mod Packages
pub mod Types
pub mod Values
pub mod mirrors
