pub mod Laws
pub mod Moving
pub mod Renaming
pub mod mirrors
