pub mod Aliases
pub mod Shown
pub mod Outlined
pub mod Laws
pub mod Sample
pub mod mirrors
pub mod codes
