pub mod Alike
pub mod Listing
pub mod Names
pub mod Places
