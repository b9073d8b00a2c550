-- What the types keep of their fields.
pub mod Keeping
pub mod Listing
