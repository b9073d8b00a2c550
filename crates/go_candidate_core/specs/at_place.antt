pub mod Locals
pub mod Types
pub mod Arounds
pub mod mirrors
