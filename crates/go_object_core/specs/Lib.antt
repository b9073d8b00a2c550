pub mod Objects
pub mod Listing
pub mod instructions
