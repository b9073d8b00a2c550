-- What the types keep of their fields.
pub mod Known
pub mod Stamped
