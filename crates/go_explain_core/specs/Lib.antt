pub mod Examples
pub mod Laws
pub mod Meanings
pub mod Mendings
pub mod Naming
pub mod Telling
